use Rattle.laws_schedule.proofs.typing.Laws.{types_are_right}
use Rattle.laws_schedule.proofs.types_are_right.Goals as goal

pub returns : goal.returns
returns c = types_are_right

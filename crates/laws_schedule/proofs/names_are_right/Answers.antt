use Rattle.laws_schedule.proofs.typing.Laws.{names_are_right}
use Rattle.laws_schedule.proofs.names_are_right.Goals as goal

pub returns : goal.returns
returns c = names_are_right

use Rattle.laws_schedule.proofs.typing.Kinded.{kinds_are_right}
use Rattle.laws_schedule.proofs.kinds_are_right.Goals as goal

pub returns : goal.returns
returns c = kinds_are_right

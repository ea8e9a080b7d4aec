use Rattle.laws_schedule.proofs.kinds.Tested.{kinds_are_tested}
use Rattle.laws_schedule.proofs.kinds_are_tested.Goals as goal

pub returns : goal.returns
returns c = kinds_are_tested

use Rattle.laws_schedule.proofs.safe.Objects.{objects_are_known}
use Rattle.laws_schedule.proofs.objects_are_known.Goals as goal

pub returns : goal.returns
returns c = objects_are_known

use Rattle.laws_schedule.proofs.kinds.Kept.{kinds_are_kept}
use Rattle.laws_schedule.proofs.kinds_are_kept.Goals as goal

pub returns : goal.returns
returns c = kinds_are_kept

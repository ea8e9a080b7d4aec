use Rattle.laws_schedule.proofs.kinds.Kept.{kinds_are_kept_serially}
use Rattle.laws_schedule.proofs.kinds_are_kept_serially.Goals as goal

pub returns : goal.returns
returns c = kinds_are_kept_serially

use Rattle.laws_schedule.proofs.kinds.Kept.{starts_kinded}
use Rattle.laws_schedule.proofs.starts_kinded.Goals as goal

pub returns : goal.returns
returns c = starts_kinded

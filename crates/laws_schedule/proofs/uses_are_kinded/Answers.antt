use Rattle.laws_schedule.proofs.kinds.Uses.{uses_are_kinded}
use Rattle.laws_schedule.proofs.uses_are_kinded.Goals as goal

pub returns : goal.returns
returns c = uses_are_kinded

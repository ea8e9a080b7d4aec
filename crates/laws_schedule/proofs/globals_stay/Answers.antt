use Rattle.laws_schedule.proofs.safe.Held.{globals_stay}
use Rattle.laws_schedule.proofs.globals_stay.Goals as goal

pub returns : goal.returns
returns c = globals_stay

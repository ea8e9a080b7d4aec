use Rattle.schedule_core.proofs.Over.{ended_enables_nothing}
use Rattle.schedule_core.proofs.laws.ended_enables_nothing.Goals as goal

pub returns : goal.returns
returns c = ended_enables_nothing

use Rattle.schedule_core.proofs.laws_workers.Texts.{starts_fit}
use Rattle.schedule_core.proofs.laws_workers.starts_fit.Goals as goal

pub returns : goal.returns
returns c = starts_fit

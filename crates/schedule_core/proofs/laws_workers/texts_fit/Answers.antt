use Rattle.schedule_core.proofs.laws_workers.Texts.{texts_fit}
use Rattle.schedule_core.proofs.laws_workers.texts_fit.Goals as goal

pub returns : goal.returns
returns c = texts_fit

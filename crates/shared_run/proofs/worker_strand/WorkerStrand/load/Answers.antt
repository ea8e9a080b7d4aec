use Rattle.std.proofs.Common.{refl}
use Rattle.shared_run.proofs.worker_strand.WorkerStrand.load.Goals as goal

pub returns-in-Ok-true-clause-begun : goal.returns-in-Ok-true-clause-begun
returns-in-Ok-true-clause-begun g c = λ t. (refl, c.in-Ok-true.ensures.begun c.in-Ok-true.field-0-test)

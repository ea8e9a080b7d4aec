use Rattle.schedule_core.proofs.laws_workers.Going.{workers_runs_are_safe}
use Rattle.schedule_core.proofs.laws_workers.workers_runs_are_safe.Goals as goal

pub returns : goal.returns
returns c = workers_runs_are_safe

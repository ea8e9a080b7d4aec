use Rattle.schedule_core.proofs.laws_workers.Runs.{runs_stay_scheduled}
use Rattle.schedule_core.proofs.laws_workers.runs_stay_scheduled.Goals as goal

pub returns : goal.returns
returns c = runs_stay_scheduled

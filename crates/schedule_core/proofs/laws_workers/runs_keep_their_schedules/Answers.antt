use Rattle.schedule_core.proofs.laws_workers.Runs.{runs_keep_their_schedules}
use Rattle.schedule_core.proofs.laws_workers.runs_keep_their_schedules.Goals as goal

pub returns : goal.returns
returns c = runs_keep_their_schedules

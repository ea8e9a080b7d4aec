use Rattle.schedule_core.proofs.laws_workers.Runs.{runs_stand_safely}
use Rattle.schedule_core.proofs.laws_workers.runs_stand_safely.Goals as goal

pub returns : goal.returns
returns c = runs_stand_safely

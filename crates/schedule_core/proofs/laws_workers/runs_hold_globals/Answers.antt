use Rattle.schedule_core.proofs.laws_workers.Runs.{runs_hold_globals}
use Rattle.schedule_core.proofs.laws_workers.runs_hold_globals.Goals as goal

pub returns : goal.returns
returns c = runs_hold_globals

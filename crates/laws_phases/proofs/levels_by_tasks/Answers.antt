use Rattle.laws_phases.proofs.costs.Levels.{levels_by_tasks}
use Rattle.laws_phases.proofs.levels_by_tasks.Goals as goal

pub returns : goal.returns
returns c = levels_by_tasks

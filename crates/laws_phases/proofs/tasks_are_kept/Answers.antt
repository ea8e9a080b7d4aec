use Rattle.laws_phases.proofs.defined.Placed.{tasks_kept_alone}
use Rattle.laws_phases.proofs.tasks_are_kept.Goals as goal

pub returns : goal.returns
returns c = tasks_kept_alone

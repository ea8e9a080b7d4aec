use Rattle.laws_phases.proofs.defined.Roles.{roles_fit}
use Rattle.laws_phases.proofs.roles_fit_tasks.Goals as goal

pub returns : goal.returns
returns c = roles_fit

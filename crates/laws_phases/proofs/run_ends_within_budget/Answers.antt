use Rattle.laws_phases.proofs.costs.Ends.{run_ends_within_budget}
use Rattle.laws_phases.proofs.run_ends_within_budget.Goals as goal

pub returns : goal.returns
returns c = run_ends_within_budget

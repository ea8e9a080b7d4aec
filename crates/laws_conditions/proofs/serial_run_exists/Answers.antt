use Rattle.laws_conditions.proofs.theorem.Budgets.{serial_run_exists}
use Rattle.laws_conditions.proofs.serial_run_exists.Goals as goal

pub returns : goal.returns
returns c = serial_run_exists

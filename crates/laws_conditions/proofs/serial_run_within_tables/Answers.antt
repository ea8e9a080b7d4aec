use Rattle.laws_conditions.proofs.rules.Serially.{serial_run_within_tables}
use Rattle.laws_conditions.proofs.serial_run_within_tables.Goals as goal

pub returns : goal.returns
returns c = serial_run_within_tables

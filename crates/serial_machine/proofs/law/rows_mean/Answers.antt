use Rattle.serial_machine.proofs.Rows.{rows_mean}
use Rattle.serial_machine.proofs.law.rows_mean.Goals as goal

pub returns : goal.returns
returns c = rows_mean

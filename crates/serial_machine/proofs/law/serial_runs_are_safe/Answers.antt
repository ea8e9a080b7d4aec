use Rattle.serial_machine.proofs.safe.Going.{serial_runs_are_safe}
use Rattle.serial_machine.proofs.law.serial_runs_are_safe.Goals as goal

pub returns : goal.returns
returns c = serial_runs_are_safe

use Rattle.serial_machine.proofs.room.Operands.{items_fit}
use Rattle.serial_machine.proofs.law.operands_fit.Goals as goal

pub returns : goal.returns
returns c = items_fit

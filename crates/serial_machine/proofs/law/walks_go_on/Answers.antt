use Rattle.serial_machine.proofs.walks.Ahead.{walks_go_on}
use Rattle.serial_machine.proofs.law.walks_go_on.Goals as goal

pub returns : goal.returns
returns c = walks_go_on

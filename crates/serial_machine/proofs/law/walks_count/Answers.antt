use Rattle.serial_machine.proofs.walks.Counted.{walks_count}
use Rattle.serial_machine.proofs.law.walks_count.Goals as goal

pub returns : goal.returns
returns c = walks_count

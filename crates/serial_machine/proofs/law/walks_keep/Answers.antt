use Rattle.serial_machine.proofs.walks.WalksKept.{walks_keep_tests}
use Rattle.serial_machine.proofs.law.walks_keep.Goals as goal

pub returns : goal.returns
returns c = walks_keep_tests

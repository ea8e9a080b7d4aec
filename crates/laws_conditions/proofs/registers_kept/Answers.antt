use Rattle.laws_conditions.proofs.rules.Registers.{registers_kept_by_tests}
use Rattle.laws_conditions.proofs.registers_kept.Goals as goal

pub returns : goal.returns
returns c = registers_kept_by_tests

use Rattle.laws_phases.proofs.defined.Stable.{stable_by_rules}
use Rattle.laws_phases.proofs.registers_are_stable.Goals as goal

pub returns : goal.returns
returns c = stable_by_rules

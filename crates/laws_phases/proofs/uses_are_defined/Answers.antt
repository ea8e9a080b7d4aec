use Rattle.laws_phases.proofs.defined.Registers.{uses_are_defined}
use Rattle.laws_phases.proofs.uses_are_defined.Goals as goal

pub returns : goal.returns
returns c = uses_are_defined

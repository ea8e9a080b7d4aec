use Rattle.laws_phases.proofs.defined.Registers.{defined_are_kept}
use Rattle.laws_phases.proofs.defined_registers_are_kept.Goals as goal

pub returns : goal.returns
returns c = defined_are_kept

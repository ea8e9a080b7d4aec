use Rattle.std.proofs.Common.{take}
use Rattle.types.specs.names.Told.{Gives}
use Rattle.types.specs.Instruction as spec
use Rattle.types.proofs.instruction.resolve_phis.Given as goal

abbrev pub invariant-loop-phi : goal.invariant-loop-phi
invariant-loop-phi l = Gives l.resolved (spec.phis_of l.scope (take l.phi-index l.phis))

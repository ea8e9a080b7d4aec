use Rattle.std.proofs.Common.{take}
use Rattle.types.specs.names.Told.{Gives}
use Rattle.types.specs.Instruction as spec
use Rattle.types.proofs.instruction.resolve_entries.Given as goal

abbrev pub invariant-loop-entry : goal.invariant-loop-entry
invariant-loop-entry l = Gives l.resolved (spec.entries_of l.scope l.line l.width (take l.entry-index l.entries))

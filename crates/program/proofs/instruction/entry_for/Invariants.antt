use Rattle.std.proofs.Common.{◌≡◌, drop}
use Rattle.program.specs.Phis.{entry_for}
use Rattle.program.proofs.instruction.entry_for.Given as goal

abbrev pub invariant-loop-entry : goal.invariant-loop-entry
invariant-loop-entry l = entry_for l.predecessor.0 l.entries ≡ entry_for l.predecessor.0 (drop l.entry-index l.entries)

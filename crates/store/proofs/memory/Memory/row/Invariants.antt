use Rattle.std.proofs.Common.{◌≡◌, ◌++◌, drop}
use Rattle.store.specs.Refilled.{row_of}
use Rattle.store.proofs.memory.Memory.row.Given as goal

abbrev pub invariant-loop-global : goal.invariant-loop-global
invariant-loop-global l = l.row.items ++ row_of (drop l.global-index l.global-items) ≡ row_of l.global-items

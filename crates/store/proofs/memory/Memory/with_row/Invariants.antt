use Rattle.std.proofs.Common.{◌≡◌, ◌++◌, drop}
use Rattle.store.specs.Refilled.{refilled}
use Rattle.store.proofs.memory.Memory.with_row.Given as goal

abbrev pub invariant-loop-global : goal.invariant-loop-global
invariant-loop-global l = l.globals.items ++ refilled (drop l.global-index l.global-items) l.rest ≡ refilled l.global-items l.row

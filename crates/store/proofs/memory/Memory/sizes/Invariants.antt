use Rattle.std.proofs.Common.{◌≡◌, take}
use Rattle.store.specs.Rows.{sizes_of}
use Rattle.store.proofs.memory.Memory.sizes.Given as goal

abbrev pub invariant-loop-global : goal.invariant-loop-global
invariant-loop-global l = l.sizes.items ≡ sizes_of (take l.global-index l.global-items)

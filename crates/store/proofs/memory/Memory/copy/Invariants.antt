use Rattle.std.proofs.Common.{◌≡◌, take}
use Rattle.store.proofs.memory.Memory.copy.Given as goal

abbrev pub invariant-loop-global : goal.invariant-loop-global
invariant-loop-global l = l.globals.items ≡ take l.global-index l.global-items

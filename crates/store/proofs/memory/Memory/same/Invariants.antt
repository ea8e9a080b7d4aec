use Rattle.std.proofs.Common.{◌≡◌, take}
use Rattle.store.proofs.memory.Memory.same.Given as goal

abbrev pub invariant-loop-i : goal.invariant-loop-i
invariant-loop-i l = take l.i l.self-inside.globals.items ≡ take l.i l.other-inside.globals.items

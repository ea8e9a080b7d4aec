use Rattle.std.proofs.Common.{◌≡◌, length}
use Rattle.store.proofs.Refilling.{Partly}
use Rattle.store.proofs.memory.Memory.set_row.Given as goal

abbrev pub invariant-loop-i : goal.invariant-loop-i
invariant-loop-i l =
    Partly l.initial.self-inside.globals.items l.self-inside.globals.items l.i l.rest l.row ×
    (length l.self-inside.globals.items ≡ length l.initial.self-inside.globals.items)

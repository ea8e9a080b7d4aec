use Rattle.std.proofs.Common.{◌≡◌, ◌++◌, take}
use Rattle.std.specs.Prelude.{string_bytes, flat_map}
use Rattle.ir_spelling.specs.LineText.{pending_line}
use Rattle.ir_spelling.proofs.note_lines.push_all_pending.Given as goal

abbrev pub invariant-loop-pending : goal.invariant-loop-pending
invariant-loop-pending l = string_bytes l.out ≡ string_bytes l.initial.out ++ flat_map pending_line (take l.pending-index l.all)

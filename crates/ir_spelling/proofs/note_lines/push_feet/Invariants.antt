use Rattle.std.proofs.Common.{◌≡◌, ◌++◌, take}
use Rattle.std.specs.Prelude.{string_bytes, flat_map}
use Rattle.ir_spelling.specs.LineText.{foot_line}
use Rattle.ir_spelling.proofs.note_lines.push_feet.Given as goal

abbrev pub invariant-loop-foot : goal.invariant-loop-foot
invariant-loop-foot l = string_bytes l.out ≡ string_bytes l.initial.out ++ flat_map foot_line (take l.foot-index l.feet)

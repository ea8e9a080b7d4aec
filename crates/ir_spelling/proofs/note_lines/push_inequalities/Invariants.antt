use Rattle.std.proofs.Common.{◌≡◌, ◌++◌, take}
use Rattle.std.specs.Prelude.{string_bytes, flat_map}
use Rattle.ir_spelling.specs.LineText.{inequality_line}
use Rattle.ir_spelling.proofs.note_lines.push_inequalities.Given as goal

abbrev pub invariant-loop-inequality : goal.invariant-loop-inequality
invariant-loop-inequality l = string_bytes l.out ≡ string_bytes l.initial.out ++ flat_map (inequality_line l.word) (take l.inequality-index l.inequalities)

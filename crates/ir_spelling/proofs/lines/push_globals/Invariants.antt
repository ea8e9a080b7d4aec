use Rattle.std.proofs.Common.{◌≡◌, ◌++◌, take}
use Rattle.std.specs.Prelude.{string_bytes, flat_map}
use Rattle.ir_spelling.specs.LineText.{global_line}
use Rattle.ir_spelling.proofs.lines.push_globals.Given as goal

abbrev pub invariant-loop-global : goal.invariant-loop-global
invariant-loop-global l = string_bytes l.out ≡ string_bytes l.initial.out ++ flat_map global_line (take l.global-index l.globals)

use Rattle.std.proofs.Common.{◌≡◌, ◌++◌, take}
use Rattle.std.specs.Prelude.{string_bytes, flat_map}
use Rattle.ir_spelling.specs.LineText.{phi_line}
use Rattle.ir_spelling.proofs.lines.push_phis.Given as goal

abbrev pub invariant-loop-phi : goal.invariant-loop-phi
invariant-loop-phi l = string_bytes l.out ≡ string_bytes l.initial.out ++ flat_map phi_line (take l.phi-index l.phis)

use Rattle.std.proofs.Common.{◌≡◌, ◌++◌, take}
use Rattle.std.specs.Prelude.{string_bytes, flat_map}
use Rattle.ir_spelling.specs.LineText.{zone_line}
use Rattle.ir_spelling.proofs.note_lines.push_zones.Given as goal

abbrev pub invariant-loop-zone : goal.invariant-loop-zone
invariant-loop-zone l = string_bytes l.out ≡ string_bytes l.initial.out ++ flat_map zone_line (take l.zone-index l.zones)

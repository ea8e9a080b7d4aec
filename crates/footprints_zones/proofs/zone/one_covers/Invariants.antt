use Rattle.std.proofs.Common.{◌≡◌, false, take}
use Rattle.std.specs.List.{list_any}
use Rattle.program.specs.declared.annotation.Zone.{Zone}
use Rattle.footprints_zones.specs.Zones.{span, as_written, covers}
use Rattle.footprints_zones.proofs.zone.one_covers.Given as goal

abbrev pub invariant-loop-zone : goal.invariant-loop-zone
invariant-loop-zone l = list_any (λ (z : Zone). covers l.facts (as_written z) (span l.y.object l.y.moves.now l.y.zone.now)) (take l.zone-index l.zones) ≡ false

use Rattle.std.proofs.Common.{◌≡◌, false, take}
use Rattle.std.specs.List.{list_any}
use Rattle.footprints_zones.specs.declared.measured.MeasuredZone.{MeasuredZone}
use Rattle.footprints_zones.specs.Zones.{span, as_written}
use Rattle.footprints_zones.specs.Meets.{meets}
use Rattle.footprints_zones.proofs.measured.one_meets.Given as goal

abbrev pub invariant-loop-zone : goal.invariant-loop-zone
invariant-loop-zone l = list_any (λ (m : MeasuredZone). meets l.facts (as_written m.zone.now) (span l.y.object l.y.moves.now l.y.zone.now)) (take l.zone-index l.zones) ≡ false

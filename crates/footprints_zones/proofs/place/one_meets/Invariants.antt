use Rattle.std.proofs.Common.{◌≡◌, false, take}
use Rattle.std.specs.List.{list_any}
use Rattle.program.specs.declared.annotation.Pending.{Pending}
use Rattle.footprints_zones.specs.Zones.{span, as_written}
use Rattle.footprints_zones.specs.Meets.{meets}
use Rattle.footprints_zones.proofs.place.one_meets.Given as goal

abbrev pub invariant-loop-item : goal.invariant-loop-item
invariant-loop-item l = list_any (λ (q : Pending). meets l.facts (as_written q.zone) (span l.y.object l.y.moves.now l.y.zone.now)) (take l.item-index l.pending) ≡ false

use Rattle.std.proofs.Common.{◌≡◌, false, take}
use Rattle.std.specs.Prelude.{◌==◌, ◌&&◌}
use Rattle.std.specs.List.{list_any}
use Rattle.program.specs.declared.annotation.Pending.{Pending}
use Rattle.footprints_feet.specs.footprints_zones.Zones.{span, as_written, covers}
use Rattle.footprints.proofs.pass.is_passed.Given as goal

abbrev pub invariant-loop-item : goal.invariant-loop-item
invariant-loop-item l = list_any (λ (q : Pending). (q.region.0 == l.region.0) && covers l.facts (span q.zone.object l.edge.moves q.zone) (as_written l.zone)) (take l.item-index l.waiting) ≡ false

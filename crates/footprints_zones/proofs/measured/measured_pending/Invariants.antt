use Rattle.std.proofs.Common.{◌≡◌, take, List, map}
use Rattle.std.specs.Prelude.{All}
use Rattle.linear.specs.declared.form.Fact.{Fact}
use Rattle.program.specs.declared.annotation.Pending.{Pending}
use Rattle.footprints_zones.specs.Ends.{AreBounds, IsMeasured, zones_of}
use Rattle.footprints_zones.proofs.measured.measured_pending.Given as goal

abbrev pub invariant-loop-item : goal.invariant-loop-item
invariant-loop-item l =
    (zones_of l.all.items ≡ map (λ (q : Pending). q.zone) (take l.item-index l.pending))
    × ((facts : List Fact) → All (AreBounds facts) l.bounds → All (IsMeasured facts) l.all.items)

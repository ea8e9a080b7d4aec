use Rattle.std.proofs.Common.{◌≡◌, take, List}
use Rattle.std.specs.Prelude.{All}
use Rattle.linear.specs.declared.form.Fact.{Fact}
use Rattle.footprints_zones.specs.Ends.{AreBounds, IsMeasured, zones_of}
use Rattle.footprints_zones.proofs.measured.measured_zones.Given as goal

abbrev pub invariant-loop-zone : goal.invariant-loop-zone
invariant-loop-zone l =
    (zones_of l.all.items ≡ take l.zone-index l.zones)
    × ((facts : List Fact) → All (AreBounds facts) l.bounds → All (IsMeasured facts) l.all.items)

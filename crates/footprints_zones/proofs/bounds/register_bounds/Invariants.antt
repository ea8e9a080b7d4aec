use Rattle.std.specs.Prelude.{All}
use Rattle.footprints_zones.specs.Ends.{AreBounds}
use Rattle.footprints_zones.proofs.bounds.register_bounds.Given as goal

abbrev pub invariant-loop-index : goal.invariant-loop-index
invariant-loop-index l = All (AreBounds l.facts) l.bounds.items

use Rattle.std.proofs.Common.{rules, sym, subst}
use Rattle.std.specs.Prelude.{All}
use Rattle.footprints_zones.specs.Ends.{IsMeasured}
use Rattle.footprints_zones.proofs.Numbers.{zones_more, measured_more}
use Rattle.footprints_zones.proofs.measured.measured_zones.Goals as goal

pub loop-zone-preserved : goal.loop-zone-preserved
loop-zone-preserved c = (
  search (rules, zones_more),
  λ facts bounded. subst (All (IsMeasured facts)) (sym c.in_ok-push.ensures.items)
      (measured_more facts c.loop-zone.all.items c.measured-measured.result (c.loop-zone.invariant.1 facts bounded) (c.measured-measured.ensures.ends facts bounded)),
)

use Rattle.definedness.proofs.Needs.{item_more}
use Rattle.definedness.proofs.registers.push_zones.Goals as goal

pub loop-zone-preserved : goal.loop-zone-preserved
loop-zone-preserved c = item_more _ _ _ c.zone-item.result _ _ _ c.loop-zone-test.true c.zone-item.is c.loop-zone.invariant c.in_ok-push_zone.ensures

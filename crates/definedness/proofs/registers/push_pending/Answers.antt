use Rattle.definedness.specs.RegisterActs.{pending_needs}
use Rattle.definedness.proofs.Needs.{item_more, two_parts}
use Rattle.definedness.proofs.registers.push_pending.Goals as goal

pub loop-line-preserved : goal.loop-line-preserved
loop-line-preserved c = item_more (pending_needs c.args.allocas.now) _ _ c.line-item.result _ _ _ c.loop-line-test.true c.line-item.is c.loop-line.invariant (two_parts _ _ _ _ _ c.in_ok-push_register.ensures c.in_ok-push_zone.ensures)

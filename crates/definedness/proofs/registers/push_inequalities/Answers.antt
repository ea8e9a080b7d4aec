use Rattle.definedness.proofs.Needs.{item_more}
use Rattle.definedness.proofs.registers.push_inequalities.Goals as goal

pub loop-line-preserved : goal.loop-line-preserved
loop-line-preserved c = item_more _ _ _ c.line-item.result _ _ _ c.loop-line-test.true c.line-item.is c.loop-line.invariant c.in_ok-push_inequality.ensures

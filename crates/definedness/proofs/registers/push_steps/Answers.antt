use Rattle.definedness.proofs.Needs.{item_more}
use Rattle.definedness.proofs.registers.push_steps.Goals as goal

pub loop-step-preserved : goal.loop-step-preserved
loop-step-preserved c = item_more _ _ _ c.step-item.result _ _ _ c.loop-step-test.true c.step-item.is c.loop-step.invariant c.in_ok-push_step.ensures

use Rattle.definedness.proofs.Needs.{one_more}
use Rattle.definedness.proofs.registers.push_arguments.Goals as goal

pub loop-argument-preserved : goal.loop-argument-preserved
loop-argument-preserved c = one_more _ _ _ _ _ _ _ c.loop-argument-test.true c.loop-argument.invariant c.in_ok-push_argument.ensures

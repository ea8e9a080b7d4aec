use Rattle.definedness.specs.RegisterActs.{value_needs}
use Rattle.definedness.proofs.Needs.{item_more}
use Rattle.definedness.proofs.registers.push_values.Goals as goal

pub loop-block-preserved : goal.loop-block-preserved
loop-block-preserved c = item_more (value_needs c.args.from) _ _ c.block-item.result _ _ _ c.loop-block-test.true c.block-item.is c.loop-block.invariant (rw c.as_slice.ensures at c.in_ok-push_phis.ensures)

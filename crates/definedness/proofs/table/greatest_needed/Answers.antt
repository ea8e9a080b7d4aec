use Rattle.std.proofs.Common.{suc, arith}
use Rattle.definedness.proofs.Tables.{blocks_next}
use Rattle.definedness.proofs.table.greatest_needed.Goals as goal

pub loop-block-preserved : goal.loop-block-preserved
loop-block-preserved c = blocks_next c.args.table.now _ c.block-item.result (suc c.loop-block.greatest) (suc c.most_needed-greatest.result) c.loop-block-test.true c.block-item.is (omega (arith, c.most_needed-greatest.ensures.least)) c.loop-block.invariant (rw c.as_slice.ensures at c.most_needed-greatest.ensures.needs)

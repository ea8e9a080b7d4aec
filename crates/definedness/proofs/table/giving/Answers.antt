use Rattle.definedness.proofs.Tables.{marks_more, marks_all}
use Rattle.definedness.proofs.table.giving.Goals as goal

pub loop-block-preserved : goal.loop-block-preserved
loop-block-preserved c = rw c.in_ok-push.ensures.items (marks_more c.args.all.now c.args.number _ c.block-item.result _ _ c.loop-block-test.true c.block-item.is c.loop-block.invariant (rw (← c.as_slice.ensures) c.is_among.ensures))

pub returns-clause-exact : goal.returns-clause-exact
returns-clause-exact c = marks_all _ _ _ _ c.loop-block-test.false c.loop-block.invariant

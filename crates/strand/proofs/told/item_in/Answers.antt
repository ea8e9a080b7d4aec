use Rattle.strand.proofs.Items.{end_read, none_past, step_read}
use Rattle.strand.proofs.told.item_in.Goals as goal

pub returns-then-index-steps : goal.returns-then-index-steps
returns-then-index-steps c = step_read c.args.block.now.steps c.as_slice-steps.result.now c.args.block.now.ending c.args.index c.index-steps-index.result c.as_slice-steps.ensures c.if-index-steps.true

pub unreachable-requires : goal.unreachable-requires
unreachable-requires c = c.requires (none_past c.args.block.now.steps c.as_slice-steps.result.now c.args.block.now.ending c.args.index c.as_slice-steps.ensures c.if-index-steps.false c.in-None.is)

pub returns : goal.returns
returns c = end_read c.args.block.now.steps c.as_slice-steps.result.now c.args.block.now.ending c.in-Some.ending c.args.index c.as_slice-steps.ensures c.if-index-steps.false c.in-Some.is c.requires

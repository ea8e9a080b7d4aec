use Rattle.types.specs.Block as spec
use Rattle.types.proofs.names.Giving.{all_step}
use Rattle.types.proofs.block.resolve_blocks.Goals as goal

pub loop-place-preserved : goal.loop-place-preserved
loop-place-preserved c =
    all_step (spec.block_of c.args.context.now.world.items.now c.args.context.now.world.functions.now c.args.context.now.world.named.now c.args.context.now.scope.now c.args.function c.args.context.now.result_type) c.args.blocks.now c.loop-place.place c.index-blocks-place.result
    c.joined-resolved.result c.loop-place.resolved c.resolve_block.result
    c.loop-place-test.true c.index-blocks-place.is c.joined-resolved.ensures c.loop-place.invariant c.resolve_block.ensures

use Rattle.types.specs.Function as spec
use Rattle.types.proofs.names.Giving.{all_step}
use Rattle.types.proofs.function.resolve_functions.Goals as goal

pub loop-place-preserved : goal.loop-place-preserved
loop-place-preserved c =
    all_step (spec.function_of c.args.world.now.items.now c.args.world.now.functions.now c.args.world.now.named.now) c.args.world.now.functions.now c.loop-place.place
    c.index-functions-place.result c.joined-resolved.result c.loop-place.resolved c.resolve_function.result
    c.loop-place-test.true c.index-functions-place.is c.joined-resolved.ensures c.loop-place.invariant c.resolve_function.ensures

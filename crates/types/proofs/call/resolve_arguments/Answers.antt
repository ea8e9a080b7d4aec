use Rattle.std.proofs.Common.{ap, ◌∙◌}
use Rattle.types.specs.Call as spec
use Rattle.types.proofs.names.Giving.{all_step, gives_told}
use Rattle.types.proofs.call.resolve_arguments.Goals as goal

pub loop-place-preserved : goal.loop-place-preserved
loop-place-preserved c =
    all_step (λ place. spec.argument_of c.args.items.now c.args.scope.now c.args.line (spec.expected c.args.parameters.now place)) c.args.arguments.now c.loop-place.place
    c.index-arguments-place.result c.joined-resolved.result c.loop-place.resolved c.told.result
    c.loop-place-test.true c.index-arguments-place.is c.joined-resolved.ensures c.loop-place.invariant
    (gives_told _ _ _ c.told.ensures (c.resolve_argument.ensures
    ∙ ap (λ p. spec.argument_of c.args.items.now c.args.scope.now c.args.line p c.index-arguments-place.result) c.expected-parameter.ensures))

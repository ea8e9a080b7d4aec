use Rattle.types.specs.Instruction as spec
use Rattle.types.proofs.names.Giving.{all_step}
use Rattle.types.proofs.instruction.resolve_steps.Goals as goal

pub loop-step-preserved : goal.loop-step-preserved
loop-step-preserved c =
    all_step (λ _. spec.step_of c.args.context.now.world.items.now c.args.context.now.world.functions.now c.args.context.now.world.named.now c.args.context.now.scope.now c.args.function c.args.block) c.args.steps.now c.loop-step.step-index c.step-item.result
    c.joined-resolved.result c.loop-step.resolved c.resolve_step.result
    c.loop-step-test.true c.step-item.is c.joined-resolved.ensures c.loop-step.invariant c.resolve_step.ensures

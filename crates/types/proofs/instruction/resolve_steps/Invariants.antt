use Rattle.std.proofs.Common.{take}
use Rattle.types.specs.names.Told.{Gives}
use Rattle.types.specs.Instruction as spec
use Rattle.types.proofs.instruction.resolve_steps.Given as goal

abbrev pub invariant-loop-step : goal.invariant-loop-step
invariant-loop-step l = Gives l.resolved (spec.steps_of l.context.world.items.now l.context.world.functions.now l.context.world.named.now l.context.scope.now l.function l.block (take l.step-index l.steps))

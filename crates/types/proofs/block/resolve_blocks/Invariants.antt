use Rattle.std.proofs.Common.{take}
use Rattle.types.specs.names.Told.{Gives}
use Rattle.types.specs.Block as spec
use Rattle.types.proofs.block.resolve_blocks.Given as goal

abbrev pub invariant-loop-place : goal.invariant-loop-place
invariant-loop-place l = Gives l.resolved (spec.blocks_of l.context.world.items.now l.context.world.functions.now l.context.world.named.now l.context.scope.now l.function l.context.result_type (take l.place l.blocks))

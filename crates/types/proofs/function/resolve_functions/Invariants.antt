use Rattle.std.proofs.Common.{take}
use Rattle.types.specs.names.Fault.{all_of}
use Rattle.types.specs.names.Told.{Gives}
use Rattle.types.specs.Function as spec
use Rattle.types.proofs.function.resolve_functions.Given as goal

abbrev pub invariant-loop-place : goal.invariant-loop-place
invariant-loop-place l = Gives l.resolved (all_of (spec.function_of l.world.items.now l.world.functions.now l.world.named.now) (take l.place l.functions))

use Rattle.std.proofs.Common.{take}
use Rattle.types.specs.names.Told.{Gives}
use Rattle.types.specs.Call as spec
use Rattle.types.proofs.call.resolve_arguments.Given as goal

abbrev pub invariant-loop-place : goal.invariant-loop-place
invariant-loop-place l = Gives l.resolved (spec.arguments_of l.items l.scope l.line l.parameters (take l.place l.arguments))

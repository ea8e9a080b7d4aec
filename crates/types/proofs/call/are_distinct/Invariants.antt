use Rattle.std.proofs.Common.{◌≡◌, drop}
use Rattle.types.specs.Call as spec
use Rattle.types.proofs.call.are_distinct.Given as goal

abbrev pub invariant-loop-place : goal.invariant-loop-place
invariant-loop-place l = spec.are_distinct (drop l.place l.arguments) ≡ spec.are_distinct l.arguments

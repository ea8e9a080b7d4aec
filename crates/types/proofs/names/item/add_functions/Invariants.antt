use Rattle.std.proofs.Common.{◌≡◌, drop}
use Rattle.types.specs.names.Item as spec
use Rattle.types.proofs.names.item.add_functions.Given as goal

abbrev pub invariant-loop-place : goal.invariant-loop-place
invariant-loop-place l = spec.with_functions l.place l.items (drop l.place l.functions) ≡ spec.with_functions 0 l.initial.items l.functions

use Rattle.std.proofs.Common.{◌≡◌, drop}
use Rattle.types.specs.names.Item as spec
use Rattle.types.proofs.names.item.add_globals.Given as goal

abbrev pub invariant-loop-place : goal.invariant-loop-place
invariant-loop-place l = spec.with_globals l.place l.items (drop l.place l.globals) ≡ spec.with_globals 0 l.initial.items l.globals

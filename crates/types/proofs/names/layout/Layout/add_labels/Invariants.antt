use Rattle.std.proofs.Common.{◌≡◌, drop}
use Rattle.types.specs.names.Layout as spec
use Rattle.types.proofs.names.layout.Layout.add_labels.Given as goal

abbrev pub invariant-loop-place : goal.invariant-loop-place
invariant-loop-place l = spec.with_labels l.place l.self (drop l.place l.blocks) ≡ spec.with_labels 0 l.initial.self l.blocks

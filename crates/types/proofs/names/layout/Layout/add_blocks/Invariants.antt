use Rattle.std.proofs.Common.{◌≡◌, drop}
use Rattle.types.specs.names.Layout as spec
use Rattle.types.proofs.names.layout.Layout.add_blocks.Given as goal

abbrev pub invariant-loop-place : goal.invariant-loop-place
invariant-loop-place l = spec.with_blocks l.place l.self (drop l.place l.blocks) ≡ spec.with_blocks 0 l.initial.self l.blocks

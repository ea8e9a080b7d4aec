use Rattle.std.proofs.Common.{◌≡◌, drop}
use Rattle.types.specs.names.Mention as spec
use Rattle.types.proofs.names.mention.add_blocks.Given as goal

abbrev pub invariant-loop-block : goal.invariant-loop-block
invariant-loop-block l = spec.with_blocks l.items l.found (drop l.block-index l.blocks) ≡ spec.with_blocks l.items l.initial.found l.blocks

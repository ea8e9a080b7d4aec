use Rattle.std.proofs.Common.{◌≡◌, take}
use Rattle.cost_table.specs.Depth.{greatest_block, block_depth}
use Rattle.cost_table.specs.Tables.{as_u64}
use Rattle.cost_table.proofs.depth.flat_depth.Given as goal

abbrev pub invariant-loop-index : goal.invariant-loop-index
invariant-loop-index l = l.depth ≡ as_u64 (greatest_block (block_depth l.before l.function l.tasks) 0 (take l.index l.blocks))

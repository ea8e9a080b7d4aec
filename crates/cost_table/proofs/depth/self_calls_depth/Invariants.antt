use Rattle.std.proofs.Common.{◌≡◌, take}
use Rattle.cost_table.specs.Depth.{greatest_block, self_call_depth}
use Rattle.cost_table.specs.Tables.{as_u64}
use Rattle.cost_table.proofs.depth.self_calls_depth.Given as goal

abbrev pub invariant-loop-index : goal.invariant-loop-index
invariant-loop-index l = l.depth ≡ as_u64 (greatest_block (self_call_depth l.function l.tasks 0) 0 (take l.index l.blocks))

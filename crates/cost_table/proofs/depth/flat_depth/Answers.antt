use Rattle.std.proofs.Common.{◌≡◌, ◌-◌, ◌^◌, suc, take}
use Rattle.program.specs.declared.instruction.Step.{Step}
use Rattle.program.specs.Calls.{callee_of}
use Rattle.cost_table.specs.Depth.{greatest, greatest_block, block_depth, callee_depth, detaches_around}
use Rattle.cost_table.specs.Tables.{as_u64}
use Rattle.cost_table.proofs.Capped.{capped_deeper}
use Rattle.cost_table.proofs.Greatest.{block_next}
use Rattle.cost_table.proofs.depth.flat_depth.Goals as goal

pub loop-index-preserved : goal.loop-index-preserved
loop-index-preserved c =
    let f = block_depth c.args.before.now c.args.function c.args.tasks.now in
    let i = c.loop-index.index in
    let block = c.index-blocks-index.result in
    let next = block_next f c.args.blocks.now i block c.loop-index-test.true c.index-blocks-index.is in
    let before : c.loop-index.depth ≡ as_u64 (greatest_block f 0 (take i c.args.blocks.now)) = c.loop-index.invariant in
    let cut = capped_deeper (greatest_block f 0 (take i c.args.blocks.now)) (suc (detaches_around c.args.tasks.now i)) (greatest (λ (s : Step). callee_depth c.args.before.now c.args.function (callee_of s.instruction)) block.steps) (2 ^ 64 - 1) in
    cc

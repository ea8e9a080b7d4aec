use Rattle.std.proofs.Common.{◌≡◌, ◌∙◌, ℕ, max, ◌-◌, ◌^◌, suc, take, ap}
use Rattle.program.specs.declared.instruction.Step.{Step}
use Rattle.program.specs.Calls.{callee_of}
use Rattle.cost_table.specs.Depth.{greatest, greatest_block, self_call_depth, self_depth, detaches_around}
use Rattle.cost_table.specs.Tables.{as_u64}
use Rattle.cost_table.proofs.Capped.{capped_max}
use Rattle.cost_table.proofs.Deeper.{self_calls_cut}
use Rattle.cost_table.proofs.Greatest.{block_next}
use Rattle.cost_table.proofs.depth.self_calls_depth.Goals as goal

pub loop-index-preserved : goal.loop-index-preserved
loop-index-preserved c =
    let f = self_call_depth c.args.function c.args.tasks.now 0 in
    let i = c.loop-index.index in
    let block = c.index-blocks-index.result in
    let next = block_next f c.args.blocks.now i block c.loop-index-test.true c.index-blocks-index.is in
    let before : c.loop-index.depth ≡ as_u64 (greatest_block f 0 (take i c.args.blocks.now)) = c.loop-index.invariant in
    let cut = capped_max (greatest_block f 0 (take i c.args.blocks.now)) (f i block) (2 ^ 64 - 1) in
    let calls = self_calls_cut c.args.function (detaches_around c.args.tasks.now i) block.steps in
    let frames : c.frames_within-frames.result ≡ as_u64 (suc (detaches_around c.args.tasks.now i)) = c.frames_within-frames.ensures ∙ ap (λ (n : ℕ). as_u64 (suc n)) c.detaches_around.ensures.level in
    let here : c.deepest_self_call.result ≡ as_u64 (f i block) =
    c.deepest_self_call.ensures
    ∙ ap (λ (n : ℕ). greatest (λ (s : Step). self_depth c.args.function n (callee_of s.instruction)) c.as_slice.result.now) frames
    ∙ ap (greatest (λ (s : Step). self_depth c.args.function (as_u64 (suc (detaches_around c.args.tasks.now i))) (callee_of s.instruction))) c.as_slice.ensures
    ∙ calls in
    c.max-depth.ensures ∙ ap (λ (n : ℕ). max n c.deepest_self_call.result) before ∙ ap (max (as_u64 (greatest_block f 0 (take i c.args.blocks.now)))) here ∙ cut ∙ ap as_u64 next

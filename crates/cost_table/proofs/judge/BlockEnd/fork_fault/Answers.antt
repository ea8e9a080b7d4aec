use Rattle.std.proofs.Common.{◌∙◌, List, [], ap}
use Rattle.std.specs.Prelude.{slice_get}
use Rattle.program.specs.declared.function.Block.{Block}
use Rattle.cost_table.specs.Cost.{calls_done, instructions_done}
use Rattle.ranges.specs.Sums.{shows}
use Rattle.cost_table.specs.Rules.{left_behind, less_form}
use Rattle.program.specs.Left.{left_calls, left_instructions}
use Rattle.cost_table.proofs.Judging.{pair_named, shown_both}
use Rattle.cost_table.proofs.judge.BlockEnd.fork_fault.Goals as goal

pub returns : goal.returns
returns c = λ functions f is.
    let block = c.args.self.now.block.now in
    let line = c.args.self.now.line in
    let blocks = c.args.self.now.function.now.blocks in
    let facts = c.args.known.now in
    let calls = calls_done f block in
    let instructions = instructions_done functions f block in
    let child_calls = left_calls (slice_get blocks c.args.body.0) in
    let parent_calls = left_calls (slice_get blocks c.args.continuation.0) in
    let child_instructions = left_instructions (slice_get blocks c.args.body.0) in
    let parent_instructions = left_instructions (slice_get blocks c.args.continuation.0) in
    pair_named 702 line c.in_ok-calls.calls (shows facts (less_form (less_form (left_behind block.left.self_calls calls) [] child_calls) [] parent_calls))
    c.in_ok-instructions.instructions (shows facts (less_form (less_form (left_behind block.left.instructions instructions) [] child_instructions) [] parent_instructions)) _
    (shown_both facts block.left.self_calls calls c.left_calls-child.result.now child_calls c.left_calls-parent.result.now parent_calls c.in_ok-calls.calls
    (c.left_calls-child.ensures ∙ ap (λ (bs : List Block). left_calls (slice_get bs c.args.body.0)) c.as_slice-blocks.ensures)
    (c.left_calls-parent.ensures ∙ ap (λ (bs : List Block). left_calls (slice_get bs c.args.continuation.0)) c.as_slice-blocks.ensures)
    (c.in_ok-calls.ensures calls is.calls))
    (shown_both facts block.left.instructions instructions c.left_instructions-child.result.now child_instructions c.left_instructions-parent.result.now parent_instructions c.in_ok-instructions.instructions
    (c.left_instructions-child.ensures ∙ ap (λ (bs : List Block). left_instructions (slice_get bs c.args.body.0)) c.as_slice-blocks.ensures)
    (c.left_instructions-parent.ensures ∙ ap (λ (bs : List Block). left_instructions (slice_get bs c.args.continuation.0)) c.as_slice-blocks.ensures)
    (c.in_ok-instructions.ensures instructions is.instructions))
    c.fault_unless.ensures

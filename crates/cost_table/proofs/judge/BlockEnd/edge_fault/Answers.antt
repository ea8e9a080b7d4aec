use Rattle.std.proofs.Common.{◌≡◌, ◌∙◌, List, ◌++◌, ap}
use Rattle.std.specs.Prelude.{slice_get}
use Rattle.program.specs.declared.function.Block.{Block}
use Rattle.cost_table.specs.Cost.{calls_done, instructions_done}
use Rattle.ranges.specs.Sums.{shows}
use Rattle.cost_table.specs.Rules.{left_behind, less_form}
use Rattle.program.specs.Left.{left_calls, left_instructions}
use Rattle.cost_table.proofs.Judging.{pair_named, shown_next}
use Rattle.cost_table.proofs.judge.BlockEnd.edge_fault.Goals as goal

pub returns-clause-fault : goal.returns-clause-fault
returns-clause-fault c = λ functions f is.
    let block = c.args.self.now.block.now in
    let line = c.args.self.now.line in
    let to = c.args.edge.now.to.0 in
    let facts = c.args.facts.now.0 ++ c.args.edge.now.facts in
    let moves = c.args.edge.now.moves in
    let calls = calls_done f block in
    let instructions = instructions_done functions f block in
    let next_calls = left_calls (slice_get c.args.self.now.function.now.blocks to) in
    let next_instructions = left_instructions (slice_get c.args.self.now.function.now.blocks to) in
    let known : c.known-known.result ≡ facts = c.known-known.ensures ∙ c.in_ok-switch_to.ensures.all ∙ ap (λ more. c.args.facts.now.0 ++ more) c.as_slice.ensures in
    pair_named 702 line c.in_ok-calls.calls (shows facts (less_form (left_behind block.left.self_calls calls) moves next_calls))
    c.in_ok-instructions.instructions (shows facts (less_form (left_behind block.left.instructions instructions) moves next_instructions)) _
    (shown_next c.known-known.result facts block.left.self_calls calls c.as_slice-moves.result.now moves c.left_calls-next.result.now next_calls c.in_ok-calls.calls known c.as_slice-moves.ensures (c.left_calls-next.ensures ∙ ap (λ (bs : List Block). left_calls (slice_get bs to)) c.as_slice-blocks.ensures) (c.in_ok-calls.ensures calls is.calls))
    (shown_next c.known-known.result facts block.left.instructions instructions c.as_slice-moves.result.now moves c.left_instructions-next.result.now next_instructions c.in_ok-instructions.instructions known c.as_slice-moves.ensures (c.left_instructions-next.ensures ∙ ap (λ (bs : List Block). left_instructions (slice_get bs to)) c.as_slice-blocks.ensures) (c.in_ok-instructions.ensures instructions is.instructions))
    c.fault_unless.ensures

use Rattle.std.proofs.lemmas.Result.{err_from_is_err_and}
use Rattle.types.proofs.FunctionGiven.{function_fault, function_good}
use Rattle.types.proofs.function.resolve_function.Goals as goal

pub returns-in_err-head : goal.returns-in_err-head
returns-in_err-head c =
    let p = err_from_is_err_and c.from_residual-in_err-head.result c.from_residual-in_err-head.ensures.1 in
    rw (p.1, p.2) (function_fault c.args.world.now.items.now c.args.world.now.functions.now c.args.world.now.named.now c.args.place c.args.function.now c.in_ok-layout.layout
    c.resolve_head-head.result c.resolve_blocks-blocks.result c.signature_of-signature.result c.both_answers.result c.both_answers-2.result
    c.in_ok-layout.ensures c.both_answers.ensures c.both_answers-2.ensures c.resolve_head-head.ensures (rw c.as_slice-blocks.ensures at c.resolve_blocks-blocks.ensures) c.signature_of-signature.ensures
    c.in_err-head.field-0.0 c.in_err-head.was)

pub returns : goal.returns
returns c =
    function_good c.args.world.now.items.now c.args.world.now.functions.now c.args.world.now.named.now c.args.place c.args.function.now c.in_ok-layout.layout
    c.resolve_head-head.result c.resolve_blocks-blocks.result c.signature_of-signature.result c.both_answers.result c.both_answers-2.result
    c.in_ok-layout.ensures c.both_answers.ensures c.both_answers-2.ensures c.resolve_head-head.ensures (rw c.as_slice-blocks.ensures at c.resolve_blocks-blocks.ensures) c.signature_of-signature.ensures
    _ _ _ _ _ c.in_ok-head.was c.resolved_budget.ensures

use Rattle.std.proofs.Common.{Some, ◌∙◌, sym, ap}
use Rattle.std.proofs.lemmas.Result.{err_from_is_err_and}
use Rattle.ir_reader.proofs.item.Said.{lexing_fault, said_fault}
use Rattle.ir_reader.proofs.item.line.read_line.Goals as goal

pub returns-in_err-tokens-clause-fault : goal.returns-in_err-tokens-clause-fault
returns-in_err-tokens-clause-fault c =
    let p = err_from_is_err_and c.from_residual.result c.from_residual.ensures.1 in
    rw (p.1, p.2) (lexing_fault c.args.number c.args.line.now c.in_err-tokens.field-0.0 c.in_err-tokens.ensures.fault)

pub returns-clause-fault : goal.returns-clause-fault
returns-clause-fault c =
    said_fault c.args.number c.args.line.now c.as_slice.result.now c.read_tokens.result c.in_ok-tokens.ensures.found.0
    (c.in_ok-tokens.ensures.found.1 ∙ ap Some (sym c.as_slice.ensures.value)) c.read_tokens.ensures.fault

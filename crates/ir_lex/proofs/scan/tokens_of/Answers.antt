use Rattle.std.proofs.Common.{refl, sym, ◌∙◌}
use Rattle.ir_lex.specs.Faults.{NotUtf8}
use Rattle.ir_lex.proofs.Walk.{is_fault, none_with_note, none_without_note}
use Rattle.ir_lex.proofs.scan.tokens_of.Goals as goal

pub returns-in-Err-clause-fault : goal.returns-in-Err-clause-fault
returns-in-Err-clause-fault c = (refl, NotUtf8 c.in-Err.ensures.cases.0)

pub returns-in_ok-push-clause-fault : goal.returns-in_ok-push-clause-fault
returns-in_ok-push-clause-fault c =
    is_fault c.args.line.now c.args.number _ c.scan_from.result c.in_default.ensures.cases.1
    (none_with_note c.args.line.now c.spaces-start.result c.spaces-start.ensures.value (sym c.is_note_mark.ensures ∙ c.if-is_note_mark.true)) c.scan_from.ensures.fault

pub returns-else-is_note_mark-clause-fault : goal.returns-else-is_note_mark-clause-fault
returns-else-is_note_mark-clause-fault c =
    is_fault c.args.line.now c.args.number _ c.scan_from-else-is_note_mark.result c.in_default.ensures.cases.1
    (none_without_note c.args.line.now c.spaces-start.result c.spaces-start.ensures.value (sym c.is_note_mark.ensures ∙ c.if-is_note_mark.false)) c.scan_from-else-is_note_mark.ensures.fault

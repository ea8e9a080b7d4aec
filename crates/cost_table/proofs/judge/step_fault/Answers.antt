use Rattle.std.proofs.Common.{◌≡◌, List, sym, subst}
use Rattle.std.specs.Prelude.{IfOk}
use Rattle.program.specs.declared.instruction.Argument.{Argument}
use Rattle.program.specs.declared.instruction.Instruction.{Instruction}
use Rattle.refusal.specs.declared.broken.Broken.{Broken}
use Rattle.refusal.specs.Earliest.{IsEarliest}
use Rattle.refusal.proofs.Elements.{earliest_same}
use Rattle.cost_table.specs.Rules.{IsNotFalling, IsCallNotFalling}
use Rattle.cost_table.proofs.Judging.{if_ok_to}
use Rattle.cost_table.proofs.judge.step_fault.Goals as goal

pub returns-else-callee-index : goal.returns-else-callee-index
returns-else-callee-index c =
    let function = c.args.function.now in
    let line = c.args.step.now.line in
    let known = c.args.known.now in
    subst (λ (i : Instruction). IfOk c.falling_fault.result (IsEarliest (IsCallNotFalling function c.args.index line known i))) (sym c.in-Call.is)
    (if_ok_to (IsEarliest (IsNotFalling function line known c.as_slice.result.now)) (IsEarliest (λ (b : Broken). (c.in-Call.callee.0 ≡ c.args.index) × IsNotFalling function line known c.in-Call.arguments b)) c.falling_fault.result
    (λ r j. earliest_same _ _ r (λ b p. (c.if-callee-index.false, subst (λ (xs : List Argument). IsNotFalling function line known xs b) c.as_slice.ensures p)) (λ b p. subst (λ (xs : List Argument). IsNotFalling function line known xs b) (sym c.as_slice.ensures) p.1) j) c.falling_fault.ensures)

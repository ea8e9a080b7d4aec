use Rattle.std.proofs.Common.{ℕ, List, sym, subst, ⊎_elim}
use Rattle.std.specs.Prelude.{IfOk}
use Rattle.program.specs.declared.function.Function.{Function}
use Rattle.program.specs.declared.instruction.Terminator.{Terminator}
use Rattle.refusal.specs.Earliest.{IsEarliest}
use Rattle.ranges.specs.Tables.{all_with_known}
use Rattle.cost_table.specs.Doing.{IsWork}
use Rattle.cost_table.specs.Rules.{IsUncoveredAt}
use Rattle.cost_table.proofs.judge.BlockEnd.uncovered_fault.Goals as goal

pub returns-in-Detach : goal.returns-in-Detach
returns-in-Detach c =
    subst (λ (t : Terminator). IfOk c.fork_fault.result (λ r. (functions : List Function) (f : ℕ) → IsWork functions f c.args.self.now.block.now c.args.self.now.work → IsEarliest (IsUncoveredAt functions c.args.self.now.function.now f c.args.self.now.block.now c.args.self.now.line c.args.known.now (all_with_known c.args.known.now c.args.edges.now) t) r)) (sym c.in-Detach.is)
    c.fork_fault.ensures

pub returns-in-Return : goal.returns-in-Return
returns-in-Return c =
    let judged = (λ (t : Terminator). IfOk c.end_fault.result (λ r. (functions : List Function) (f : ℕ) → IsWork functions f c.args.self.now.block.now c.args.self.now.work → IsEarliest (IsUncoveredAt functions c.args.self.now.function.now f c.args.self.now.block.now c.args.self.now.line c.args.known.now (all_with_known c.args.known.now c.args.edges.now) t) r)) in
    ⊎_elim (λ x. subst judged (sym x.1) c.end_fault.ensures) (λ x. subst judged (sym x.2) c.end_fault.ensures) c.in-Return.is

pub returns-in-Jump : goal.returns-in-Jump
returns-in-Jump c =
    let judged = (λ (t : Terminator). IfOk c.edges_fault.result (λ r. (functions : List Function) (f : ℕ) → IsWork functions f c.args.self.now.block.now c.args.self.now.work → IsEarliest (IsUncoveredAt functions c.args.self.now.function.now f c.args.self.now.block.now c.args.self.now.line c.args.known.now (all_with_known c.args.known.now c.args.edges.now) t) r)) in
    ⊎_elim (λ x. subst judged (sym x.1) c.edges_fault.ensures)
    (λ more. ⊎_elim (λ x. subst judged (sym x.3) c.edges_fault.ensures)
    (λ more. ⊎_elim (λ x. subst judged (sym x.4) c.edges_fault.ensures) (λ x. subst judged (sym x.2) c.edges_fault.ensures) more) more)
    c.in-Jump.is

use Rattle.std.proofs.Common.{◌∙◌, List, Option, ap, subst}
use Rattle.std.specs.Prelude.{slice_get}
use Rattle.linear.specs.declared.form.Fact.{Fact}
use Rattle.program.specs.declared.function.Block.{Block}
use Rattle.refusal.specs.Earliest.{IsEarliest}
use Rattle.refusal.proofs.Elements.{earliest_both}
use Rattle.ranges.specs.Places.{stated}
use Rattle.cost_table.specs.Rules.{IsUnbounded, IsOverBudget, IsEntryBroken}
use Rattle.cost_table.proofs.check.entry_fault.Goals as goal

pub returns-in_ok-over-in-Some : goal.returns-in_ok-over-in-Some
returns-in_ok-over-in-Some c =
    let function = c.args.function.now in
    let entry = c.in-Some.entry.now in
    let known = stated function.requirements in
    let same = c.in_ok-known-in-Some.ensures ∙ ap stated c.as_slice-in-Some.ensures in
    subst (λ (o : Option Block). IsEarliest (IsEntryBroken function o) c.lower.result) (c.in-Some.ensures.value ∙ ap (λ (bs : List Block). slice_get bs 0) c.as_slice.ensures)
    (earliest_both (IsUnbounded function known) (IsOverBudget function known entry) _ _ _
    (subst (λ (fs : List Fact). IsEarliest (IsUnbounded function fs) c.in_ok-unbounded-in-Some.unbounded) (c.deref.ensures.value ∙ same) c.in_ok-unbounded-in-Some.ensures)
    (subst (λ (fs : List Fact). IsEarliest (IsOverBudget function fs entry) c.in_ok-over-in-Some.over) (c.deref-in-Some.ensures.value ∙ same) c.in_ok-over-in-Some.ensures)
    c.lower.ensures)

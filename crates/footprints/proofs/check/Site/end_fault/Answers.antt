use Rattle.std.proofs.Common.{◌≡◌, ◌∙◌, ℕ, List, Option, length, ap, sym, subst}
use Rattle.std.specs.Prelude.{IfOk}
use Rattle.linear.specs.declared.form.Fact.{Fact}
use Rattle.program.specs.declared.instruction.Ending.{Ending}
use Rattle.refusal.specs.Earliest.{IsEarliest}
use Rattle.ranges.specs.Tables.{all_with_known}
use Rattle.footprints.specs.Rules.{IsEndBroken}
use Rattle.footprints.proofs.check.Site.end_fault.Goals as goal

pub returns-in_ok-index_for-in-Some : goal.returns-in_ok-index_for-in-Some
returns-in_ok-index_for-in-Some c =
    let place = c.index_for.ensures ∙ c.new-cursor.ensures in
    let known : c.known-facts.result ≡ c.args.facts.now =
    c.known-facts.ensures.all (ap (λ (x : List Fact × ℕ). x.1) place ∙ sym (ap (λ (x : List Fact × ℕ). length x.0) place)) ∙ ap (λ (x : List Fact × ℕ). x.0) place in
    subst (λ (o : Option Ending). IfOk c.ending_fault.result (IsEarliest (IsEndBroken c.args.self.now.function.now c.args.self.now.task c.args.self.now.block.now c.args.facts.now (all_with_known c.args.facts.now c.args.edges.now) o))) (sym c.in-Some.is)
    (rw known at c.ending_fault.ensures)

use Rattle.std.proofs.Common.{◌≡◌, ◌∙◌, ℕ, List, take, ap, subst}
use Rattle.std.specs.Prelude.{slice_index_or}
use Rattle.linear.specs.declared.form.Fact.{Fact}
use Rattle.program.specs.declared.instruction.Step.{Step}
use Rattle.refusal.specs.Earliest.{IsEarliest}
use Rattle.refusal.proofs.Places.{Within, below_next, below_all}
use Rattle.ranges.specs.Tables.{facts_in_table}
use Rattle.footprints.specs.Rules.{IsStepBroken}
use Rattle.ranges.proofs.Passed.{below_passed}
use Rattle.footprints.proofs.After.{use_after}
use Rattle.footprints.proofs.check.Site.steps_fault.Goals as goal

pub loop-index-preserved-then-stands_before : goal.loop-index-preserved-then-stands_before
loop-index-preserved-then-stands_before c =
    let step = c.index-steps-index.result in (
      below_passed (λ (i : ℕ) (s : Step). IsStepBroken c.args.self.now.functions.now c.args.self.now.function.now c.args.self.now.task c.args.self.now.block.now (facts_in_table c.args.table.now i) s) c.as_slice-steps.result.now c.loop-index.index step c.loop-index.named c.loop-index-test.true c.index-steps-index.is
          (use_after step.line _ c.loop-index.named (c.stands_before.ensures c.if-stands_before.true))
          c.loop-index.invariant.0,
      c.loop-index.invariant.1,
    )

pub loop-index-preserved : goal.loop-index-preserved
loop-index-preserved c =
    let step = c.index-steps-index.result in
    let table = c.args.table.now in
    let place = c.index_for.ensures ∙ c.seek.ensures in
    let known : c.known-facts.result ≡ facts_in_table table c.loop-index.index =
    c.known-facts.ensures.some
    ∙ ap (λ (x : List Fact × ℕ). take x.1 x.0) place
    ∙ ap (λ (n : ℕ). take n c.loop-index.cursor.0) c.count_at.ensures
    ∙ ap (take (slice_index_or table.counts c.loop-index.index 0)) c.loop-index.invariant.1 in (
      below_next (λ (i : ℕ) (s : Step). IsStepBroken c.args.self.now.functions.now c.args.self.now.function.now c.args.self.now.task c.args.self.now.block.now (facts_in_table c.args.table.now i) s) c.as_slice-steps.result.now c.loop-index.index step _ _ _ c.loop-index-test.true c.index-steps-index.is c.loop-index.invariant.0
          (subst (λ (fs : List Fact). IsEarliest (IsStepBroken c.args.self.now.functions.now c.args.self.now.function.now c.args.self.now.task c.args.self.now.block.now fs step) c.in_ok-broken.broken) known c.in_ok-broken.ensures)
          c.lower-named.ensures,
      ap (λ (x : List Fact × ℕ). x.0) place ∙ c.loop-index.invariant.1,
    )

pub returns : goal.returns
returns c =
    subst (λ (steps : List Step). IsEarliest (Within (λ (i : ℕ) (s : Step). IsStepBroken c.args.self.now.functions.now c.args.self.now.function.now c.args.self.now.task c.args.self.now.block.now (facts_in_table c.args.table.now i) s) steps) c.loop-index.named) c.as_slice-steps.ensures
    (below_all (λ (i : ℕ) (s : Step). IsStepBroken c.args.self.now.functions.now c.args.self.now.function.now c.args.self.now.task c.args.self.now.block.now (facts_in_table c.args.table.now i) s) c.as_slice-steps.result.now _ _ c.loop-index-test.false c.loop-index.invariant.0)

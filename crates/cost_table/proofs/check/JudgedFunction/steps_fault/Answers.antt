use Rattle.std.proofs.Common.{◌≡◌, ◌∙◌, ℕ, List, take, ap, subst}
use Rattle.std.specs.Prelude.{slice_index_or}
use Rattle.linear.specs.declared.form.Fact.{Fact}
use Rattle.program.specs.declared.instruction.Step.{Step}
use Rattle.refusal.specs.Earliest.{IsEarliest}
use Rattle.refusal.proofs.Places.{Within, below_next, below_all}
use Rattle.ranges.specs.Tables.{facts_in_table}
use Rattle.cost_table.specs.Rules.{IsCallNotFalling}
use Rattle.cost_table.proofs.check.JudgedFunction.steps_fault.Goals as goal

pub loop-place-preserved : goal.loop-place-preserved
loop-place-preserved c =
    let step = c.index-steps-place.result in
    let table = c.args.table.now in
    let place = c.index_for.ensures ∙ c.seek.ensures in
    let known : c.known-known.result ≡ facts_in_table table c.loop-place.place =
    c.known-known.ensures.some
    ∙ ap (λ (x : List Fact × ℕ). take x.1 x.0) place
    ∙ ap (λ (n : ℕ). take n c.loop-place.cursor.0) c.count_at.ensures
    ∙ ap (take (slice_index_or table.counts c.loop-place.place 0)) c.loop-place.invariant.1 in (
      below_next (λ (i : ℕ) (s : Step). IsCallNotFalling c.args.self.now.function.now c.args.self.now.index s.line (facts_in_table c.args.table.now i) s.instruction) c.as_slice-steps.result.now c.loop-place.place step _ _ _ c.loop-place-test.true c.index-steps-place.is c.loop-place.invariant.0
          (subst (λ (fs : List Fact). IsEarliest (IsCallNotFalling c.args.self.now.function.now c.args.self.now.index step.line fs step.instruction) c.in_ok-broken.broken) known c.in_ok-broken.ensures)
          c.lower-named.ensures,
      ap (λ (x : List Fact × ℕ). x.0) place ∙ c.loop-place.invariant.1,
    )

pub returns : goal.returns
returns c =
    subst (λ (steps : List Step). IsEarliest (Within (λ (i : ℕ) (s : Step). IsCallNotFalling c.args.self.now.function.now c.args.self.now.index s.line (facts_in_table c.args.table.now i) s.instruction) steps) c.loop-place.named) c.as_slice-steps.ensures
    (below_all (λ (i : ℕ) (s : Step). IsCallNotFalling c.args.self.now.function.now c.args.self.now.index s.line (facts_in_table c.args.table.now i) s.instruction) c.as_slice-steps.result.now _ _ c.loop-place-test.false c.loop-place.invariant.0)

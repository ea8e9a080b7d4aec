-- Steps that stand after a fault: what they break is not named.
use Rattle.std.proofs.Common.{◌≡◌, ℕ, ◌+◌, ◌<◌, List, length, get_or, Option, Some, None, inl, inr, subst, arith}
use Rattle.std.specs.List.{All}
use Rattle.std.specs.Prelude.{slice_get}
use Rattle.std.proofs.lemmas.Bool.{cases_eq}
use Rattle.std.proofs.lemmas.Option.{slice_get-get_or, slice_get_within}
use Rattle.linear.specs.declared.form.Fact.{Fact}
use Rattle.program.specs.declared.annotation.Inequality.{Inequality}
use Rattle.program.specs.declared.instruction.Step.{Step}
use Rattle.program.specs.declared.function.Function.{Function}
use Rattle.program.specs.declared.function.Program.{Program}
use Rattle.refusal.specs.declared.broken.Broken.{Broken}
use Rattle.refusal.specs.Earliest.{IsEarliest, IsAtOrBefore}
use Rattle.refusal.proofs.Places.{Below, read_at, same_at}
use Rattle.ranges.specs.Rules.{IsStepBroken}
use Rattle.ranges.specs.Walks.{StandsBefore}

pub on_later_line : (a b : Broken) → a.line < b.line → IsAtOrBefore a b
on_later_line a b l = (omega (arith, l), λ e. absurd (omega (arith, l, e)))

-- at or before what is named, where something is
abbrev pub AreAfter : Option Broken → (Broken → Type 0) → Type 0
AreAfter None Bad = ⊥
AreAfter (Some first) Bad = (b : Broken) → Bad b → IsAtOrBefore first b

-- what all stands after the fault that is named changes nothing
pub below_passed : {X : Type 0} (Bad : ℕ → X → Broken → Type 0) (xs : List X) (i : ℕ) (x : X) (named : Option Broken) → i < length xs → x ≡ get_or xs i x →
    AreAfter named (Bad i x) → IsEarliest (Below Bad xs i) named → IsEarliest (Below Bad xs (i + 1)) named
below_passed Bad xs i x None l is after before = absurd after
below_passed Bad xs i x (Some first) l is after before =
    let read = read_at xs i x l is in
    let own = before.0 in (
      (own.0, own.1, omega (arith, own.2), own.3, own.4),
      λ b p. elim (cases_eq p.0 i) [
        | inl same ↦
            let there : slice_get xs i ≡ Some p.1 = subst (λ (n : ℕ). slice_get xs n ≡ Some p.1) same p.3 in
            let here : Bad i p.1 b = subst (λ (n : ℕ). Bad n p.1 b) same p.4 in
            after b (subst (λ (y : _). Bad i y b) (same_at xs i p.1 x there read) here)
        | inr other ↦ before.1 b (p.0, p.1, omega (arith, p.2, other), p.3, p.4)
      ],
    )

-- what is broken at a step after the fault
pub step_after : (program : Program) (function : Function) (known : List Fact) (step : Step) (named : Option Broken) →
    StandsBefore named step.line → All (λ (q : Inequality). StandsBefore named q.line) step.shows → AreAfter named (IsStepBroken program function known step)
step_after program function known step None own shows = own
step_after program function known step (Some first) own shows = λ b broken. elim broken [
  | inl (i, q, read, (number, line, unshown)) ↦
      let within : i < length step.shows = slice_get_within step.shows i q read in
      let there : get_or step.shows i q ≡ q = same_at step.shows i (get_or step.shows i q) q (slice_get-get_or step.shows i q within) read in
      let less : first.line < q.line = subst (λ (x : Inequality). first.line < x.line) there (shows i q within) in
      on_later_line first b (omega (arith, less, line))
  | inr (k, o, within, at, (number, line, unmet)) ↦ on_later_line first b (omega (arith, own, line))
]

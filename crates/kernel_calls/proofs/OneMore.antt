-- One row more.
use Rattle.std.proofs.Common.{◌≡◌, ◌≢◌, ◌∙◌, ℕ, ◌+◌, ◌-◌, ◌*◌, ◌<◌, ◌≤◌, List, ◌++◌, length, take, drop, Bool, true, false, Option, Some, refl, ap, sym, subst, arith, slice_get, slice_set, ℤ}
use Rattle.std.specs.Prelude.{min, nat_lt}
use Rattle.std.proofs.Math.Nat.{suc-mul}
use Rattle.std.proofs.lemmas.Bool.{ltb-false, ltb-true}
use Rattle.std.proofs.lemmas.List.{drop-drop}
use Rattle.std.proofs.lemmas.Option.{same_Some}
use Rattle.program.specs.declared.function.Program.{Program}
use Rattle.frame.proofs.Changes.{get_other, get_set}
use Rattle.kernel_calls.specs.Held.{IsRun, numbers_of}
use Rattle.kernel_calls.specs.declared.told.Outcome.{Outcome}
use Rattle.kernel_calls.proofs.Parts.{after_it, before_it, part_before, part_is, there}

-- the first rows have been run, and the cells past them are as they were
pub record AreDone (handle : Option Program) (fuel a c : ℕ) (arguments before now : List ℤ) (outcomes : List Outcome) (k : ℕ) : Type 0 where
  pub runs : (j : ℕ) (o : Outcome) → j < k → slice_get outcomes j ≡ Some o →
      IsRun handle fuel (numbers_of a j arguments) (numbers_of c j before) (numbers_of c j now) o
  pub others : drop (k * c) now ≡ drop (k * c) before

module _ (handle : Option Program) (fuel a c : ℕ) (arguments before now : List ℤ) (outcomes : List Outcome) (k : ℕ) (done : AreDone handle fuel a c arguments before now outcomes k) (within : k < length outcomes)
    (first last from to : ℕ) (first_is : first ≡ min (k * a) (length arguments)) (last_is : last ≡ min (first + a) (length arguments))
    (from_is : from ≡ min (k * c) (length now)) (to_is : to ≡ min (from + c) (length now))
    (new ys : List ℤ) (long : length new ≡ to - from) (put : ys ≡ take from now ++ (new ++ drop to now)) (o : Outcome)
    (run : IsRun handle fuel (take (last - first) (drop first arguments)) (take (to - from) (drop from now)) new o)
  where
    this : IsRun handle fuel (numbers_of a k arguments) (numbers_of c k before) (numbers_of c k ys) o
    this =
        let given : take (last - first) (drop first arguments) ≡ numbers_of a k arguments = part_is (k * a) a first last arguments first_is last_is in
        let cells : take (to - from) (drop from now) ≡ numbers_of c k before = part_is (k * c) c from to now from_is to_is ∙ ap (λ (l : List ℤ). take c l) done.others in
        let ends : numbers_of c k ys ≡ new = there (k * c) c from to now from_is to_is new ys long put in
        subst (λ (x : List ℤ). IsRun handle fuel x (numbers_of c k before) (numbers_of c k ys) o) given
        (subst (λ (x : List ℤ). IsRun handle fuel (take (last - first) (drop first arguments)) x (numbers_of c k ys) o) cells
        (subst (λ (x : List ℤ). IsRun handle fuel (take (last - first) (drop first arguments)) (take (to - from) (drop from now)) x o) (sym ends) run))

    runs_more : (j : ℕ) (p : Outcome) → j < k + 1 → slice_get (slice_set outcomes k o) j ≡ Some p →
        IsRun handle fuel (numbers_of a j arguments) (numbers_of c j before) (numbers_of c j ys) p
    runs_more j p low is = by (nat_lt j k) refl
      where
        by : (b : Bool) → nat_lt j k ≡ b → IsRun handle fuel (numbers_of a j arguments) (numbers_of c j before) (numbers_of c j ys) p
        by true e =
            let less : j < k = ltb-true j k e in
            let other : j ≢ k = λ same. absurd (omega (arith, less, same)) in
            let kept : numbers_of c j ys ≡ numbers_of c j now = part_before c j k now ys less (before_it (k * c) c from to now from_is to_is new ys long put) in
            subst (λ (x : List ℤ). IsRun handle fuel (numbers_of a j arguments) (numbers_of c j before) x p) (sym kept) (done.runs j p less (sym (get_other outcomes k j o other) ∙ is))
        by false e =
            let more : k ≤ j = ltb-false j k e in
            let same : k ≡ j = omega (arith, more, low) in
            let there_is : slice_get (slice_set outcomes k o) k ≡ Some p = subst (λ (x : ℕ). slice_get (slice_set outcomes k o) x ≡ Some p) (sym same) is in
            let it : o ≡ p = same_Some o p (sym (get_set outcomes k o within) ∙ there_is) in
            subst (λ (x : Outcome). IsRun handle fuel (numbers_of a j arguments) (numbers_of c j before) (numbers_of c j ys) x) it
            (subst (λ (x : ℕ). IsRun handle fuel (numbers_of a x arguments) (numbers_of c x before) (numbers_of c x ys) o) same this)

    others_more : drop ((k + 1) * c) ys ≡ drop ((k + 1) * c) before
    others_more =
        let place : (k + 1) * c ≡ k * c + c = let next = suc-mul k c in omega (arith, next) in
        let past : drop (k * c + c) now ≡ drop (k * c + c) before = sym (drop-drop c (k * c) now) ∙ ap (λ (l : List ℤ). drop c l) done.others ∙ drop-drop c (k * c) before in
        ap (λ (n : ℕ). drop n ys) place ∙ after_it (k * c) c from to now from_is to_is new ys long put ∙ past ∙ ap (λ (n : ℕ). drop n before) (sym place)

    pub one_more : AreDone handle fuel a c arguments before ys (slice_set outcomes k o) (k + 1)
    one_more = record { runs = runs_more; others = others_more }

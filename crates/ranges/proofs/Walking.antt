-- A walk, one step on.
use Rattle.std.proofs.Common.{◌≡◌, ◌∙◌, ℕ, zero, suc, ◌+◌, ◌<◌, ◌≤◌, List, [], ◌∷◌, ◌++◌, length, get_or, take, Some, refl, sym, ap, subst, ⊎_elim, arith, add-one, length-append}
use Rattle.std.specs.Prelude.{slice_get}
use Rattle.std.specs.Option.{option_to_list}
use Rattle.std.proofs.lemmas.Bool.{cases_eq}
use Rattle.std.proofs.lemmas.List.{append_assoc, take_more, length_push, get_or_push, get_or_append_left, take-append-le}
use Rattle.std.proofs.Math.Seq.{take-append_seam}
use Rattle.linear.specs.declared.form.Fact.{Fact}
use Rattle.program.specs.declared.annotation.Inequality.{Inequality}
use Rattle.program.specs.declared.instruction.Step.{Step}
use Rattle.program.specs.declared.function.Function.{Function}
use Rattle.ranges.specs.Sums.{fact_of, facts_of}
use Rattle.ranges_owed.specs.Inequalities.{difference_of}
use Rattle.ranges.specs.Learned.{learned}
use Rattle.ranges.specs.Places.{stated, with_shows, after_step, facts_before}
use Rattle.ranges.specs.Walks.{IsWalkedTo, IsWalked}
use Rattle.refusal.proofs.Places.{same_at, read_at}

stated-append : (xs ys : List Inequality) → stated (xs ++ ys) ≡ stated xs ++ stated ys
stated-append [] ys = refl
stated-append (x ∷ xs) ys =
    ap (λ r. option_to_list (fact_of (difference_of [] x)) ++ r) (stated-append xs ys) ∙ sym (append_assoc (option_to_list (fact_of (difference_of [] x))) (stated xs) (stated ys))

-- one more `shows` line
pub shows_next : (known now new : List Fact) (lines : List Inequality) (i : ℕ) (q : Inequality) → i < length lines → q ≡ get_or lines i q →
    now ≡ with_shows known (take i lines) → new ≡ with_shows now (q ∷ []) → new ≡ with_shows known (take (i + 1) lines)
shows_next known now new lines i q l is before here =
    here ∙ ap (λ ks. with_shows ks (q ∷ [])) before
    ∙ append_assoc known (stated (take i lines)) (stated (q ∷ []))
    ∙ ap (λ r. known ++ r) (sym (stated-append (take i lines) (q ∷ [])))
    ∙ ap (λ ls. with_shows known ls) (ap (λ y. take i lines ++ y ∷ []) is ∙ sym (take_more lines i q l))

-- ---- steps

step_on : (functions : List Function) (known : List Fact) (steps : List Step) (i : ℕ) (step : Step) → slice_get steps i ≡ Some step →
    facts_before functions known steps (suc i) ≡ after_step functions (facts_before functions known steps i) step
step_on functions known [] i step h = cc
step_on functions known (s ∷ steps) zero step h = let e : s ≡ step = cc in ap (after_step functions known) e
step_on functions known (s ∷ steps) (suc i) step h = step_on functions (after_step functions known s) steps i step h

pub walked_start : (functions : List Function) (before : List Fact) (steps : List Step) (counts : List ℕ) → counts ≡ [] → IsWalkedTo functions before steps 0 counts before
walked_start functions before steps counts none = record {
  size = ap length none;
  facts_are = refl;
  within = λ i step l h. absurd (omega (arith, l));
  at_step = λ i step l h. absurd (omega (arith, l));
}

module _ (functions : List Function) (before : List Fact) (steps : List Step) (i : ℕ) (step : Step) (counts counts' : List ℕ) (facts facts' : List Fact)
    (l : i < length steps) (is : step ≡ get_or steps i step) (w : IsWalkedTo functions before steps i counts facts)
    (counted : counts' ≡ counts ++ length (with_shows facts step.shows) ∷ []) (learns : facts' ≡ after_step functions facts step) where
  read : slice_get steps i ≡ Some step
  read = read_at steps i step l is

  gained : List Fact
  gained = facts_of (learned functions (with_shows facts step.shows) step.instruction)

  grown : facts' ≡ facts ++ (stated step.shows ++ gained)
  unfolding gained
  grown = learns ∙ append_assoc facts (stated step.shows) gained

  longer : length facts ≤ length facts'
  longer = let e = ap length grown in omega (arith, e, length-append facts (stated step.shows ++ gained))

  count_old : (k : ℕ) → k < i → get_or counts' k 0 ≡ get_or counts k 0
  count_old k less = ap (λ cs. get_or cs k 0) counted ∙ get_or_append_left counts (length (with_shows facts step.shows) ∷ []) 0 k (omega (arith, less, w.size))

  count_new : get_or counts' i 0 ≡ length (with_shows facts step.shows)
  count_new = ap (λ cs. get_or cs i 0) counted ∙ get_or_push counts (length (with_shows facts step.shows)) 0 i w.size

  new_within : length (with_shows facts step.shows) ≤ length facts'
  unfolding gained
  new_within = let e = ap length learns in omega (arith, e, length-append (with_shows facts step.shows) gained)

  new_at : take (length (with_shows facts step.shows)) facts' ≡ with_shows facts step.shows
  unfolding gained
  new_at = ap (take (length (with_shows facts step.shows))) learns ∙ take-append_seam (with_shows facts step.shows) gained

  pub walked_next : IsWalkedTo functions before steps (i + 1) counts' facts'
  walked_next = record {
    size = ap length counted ∙ length_push counts (length (with_shows facts step.shows)) ∙ ap (λ n. n + 1) w.size;
    facts_are = learns ∙ ap (λ fs. after_step functions fs step) w.facts_are ∙ sym (rw (add-one i) (step_on functions before steps i step read));
    within = λ k s less h. ⊎_elim
        (λ same. subst (λ j. get_or counts' j 0 ≤ length facts') (sym same) (subst (λ n. n ≤ length facts') (sym count_new) new_within))
        (λ other. let older : k < i = omega (arith, less, other) in subst (λ n. n ≤ length facts') (sym (count_old k older)) (let e = w.within k s older h in omega (arith, e, longer)))
        (cases_eq k i);
    at_step = λ k s less h. ⊎_elim
        (λ same. let e : s ≡ step = same_at steps i s step (rw same at h) read in
        subst (λ j. take (get_or counts' j 0) facts' ≡ with_shows (facts_before functions before steps j) s.shows) (sym same)
        (ap (λ n. take n facts') count_new ∙ new_at ∙ ap (λ fs. with_shows fs step.shows) w.facts_are ∙ ap (λ (z : Step). with_shows (facts_before functions before steps i) z.shows) (sym e)))
        (λ other. let older : k < i = omega (arith, less, other) in
        (ap (λ n. take n facts') (count_old k older) ∙ ap (take (get_or counts k 0)) grown ∙ take-append-le (get_or counts k 0) facts (stated step.shows ++ gained) (w.within k s older h) ∙ w.at_step k s older h))
        (cases_eq k i);
  }

pub walked_all : (functions : List Function) (before : List Fact) (steps : List Step) (n : ℕ) (counts : List ℕ) (facts : List Fact) → n ≡ length steps → IsWalkedTo functions before steps n counts facts → IsWalked functions before steps counts facts
walked_all functions before steps n counts facts e w = subst (λ m. IsWalkedTo functions before steps m counts facts) e w

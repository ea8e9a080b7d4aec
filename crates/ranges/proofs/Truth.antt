-- What sums say of the registers' values, and what is shown of them.
use Rattle.std.proofs.Common.{◌≡◌, ◌∙◌, ℕ, ℤ, pos, ◌+ℤ◌, ◌*ℤ◌, ◌≤ℤ◌, Bool, true, false, cond, List, [], ◌∷◌, Option, Some, None, refl, sym, ap, subst, arith}
use Rattle.std.specs.Prelude.{nat_lt}
use Rattle.std.specs.List.{All, Any}
use Rattle.std.specs.Int.RustNames.{unsigned_abs}
use Rattle.std.specs.Option.{option_to_list, option_map}
use Rattle.std.proofs.lemmas.Bool.{false≢true}
use Rattle.std.proofs.lemmas.Bool.Decides.{Decides-ltb}
use Rattle.std.proofs.lemmas.Int.{ints}
use Rattle.std.proofs.lemmas.List.Elements.{All-nil, All-cons, All-head, All-tail, All-append}
use Rattle.std.proofs.lemmas.List.Folds.{Any-from_list_any}
use Rattle.linear.specs.declared.form.Fact.{Fact}
use Rattle.linear.specs.Forms.{IsForm, Holds, value}
use Rattle.linear.specs.Terms.{Combination, constant_form}
use Rattle.linear_shown.specs.Shown.{AllHold}
use Rattle.linear.specs.Made.{is_bounded, with_constant}
use Rattle.linear.specs.Bounded.{term_form}
use Rattle.linear.proofs.Added.{term_added, number_added, added_value}
use Rattle.linear_shown.proofs.Tested.{shown_from_test}
use Rattle.linear_shown.proofs.Sound.{shown_holds}
use Rattle.program.specs.declared.instruction.Operand.{Operand}
use Rattle.program.specs.declared.instruction.Operand.TheVariants.{Number, Register}
use Rattle.ranges_owed.specs.declared.sum.Part.{Part}
use Rattle.ranges_owed.specs.declared.sum.Sum.{Sum}
use Rattle.ranges_owed.specs.declared.sum.Obligation.{Obligation}
use Rattle.ranges.specs.Sums.{with_operand, with_parts, sum_form, fact_of, facts_of, shows_form, shows, is_met}
use Rattle.ranges.specs.Truth.{operand_value, parts_value, sum_value, IsTrueAt}

-- a form of this value
record Valued (v : ℕ → ℤ) (f : Combination) (z : ℤ) : Type 0 where
  form : IsForm f
  value_is : value v f ≡ z

behind_term : (x y : ℤ) → ((x +ℤ pos 0) +ℤ pos 0) +ℤ y ≡ y +ℤ x
behind_term x y = omega (arith, ints)

behind_number : (x y : ℤ) → (pos 0 +ℤ x) +ℤ y ≡ y +ℤ x
behind_number x y = omega (arith, ints)

with_nothing : (x : ℤ) → x ≡ x +ℤ pos 0
with_nothing x = omega (arith, ints)

associated : (x y z : ℤ) → (x +ℤ y) +ℤ z ≡ x +ℤ (y +ℤ z)
associated x y z = omega (arith, ints)

number_valued : (v : ℕ → ℤ) (f g : Combination) (amount : ℤ) (b : Bool) → IsForm f → cond b (with_constant f amount) None ≡ Some g → Valued v g (value v f +ℤ amount)
number_valued v f g amount false form h = cc
number_valued v f g amount true form h =
    let a = number_added f g amount form h in
    record { form = a.form; value_is = added_value v (constant_form amount) f g a ∙ behind_number amount (value v f) }

operand_valued : (v : ℕ → ℤ) (f g : Combination) (factor : ℤ) (x : Operand) → IsForm f → with_operand f factor x ≡ Some g → Valued v g (value v f +ℤ (factor *ℤ operand_value v x))
operand_valued v f g factor (Number z) form h = number_valued v f g (factor *ℤ z) (is_bounded factor) form h
operand_valued v f g factor (Register r) form h =
    let a = term_added f g r factor form h in
    record { form = a.form; value_is = added_value v (term_form r factor) f g a ∙ behind_term (factor *ℤ v r.0) (value v f) }

nothing_stays : (parts : List Part) → with_parts parts None ≡ None
nothing_stays [] = refl
nothing_stays (p ∷ parts) = refl

parts_valued : (v : ℕ → ℤ) (parts : List Part) (f g : Combination) → IsForm f → with_parts parts (Some f) ≡ Some g → Valued v g (value v f +ℤ parts_value v parts)
parts_valued v [] f g form h =
    let e : f ≡ g = cc in
    subst (λ k. Valued v k (value v f +ℤ pos 0)) e (record { form = form; value_is = with_nothing (value v f) })
parts_valued v (p ∷ parts) f g form h =
    let P : Option Combination → Type 0 = λ o. with_operand f p.factor p.operand ≡ o → with_parts parts o ≡ Some g → Valued v g (value v f +ℤ ((p.factor *ℤ operand_value v p.operand) +ℤ parts_value v parts)) in
    elim (with_operand f p.factor p.operand) as P [
      | None ↦ λ e k. let impossible : None ≡ Some g = sym (nothing_stays parts) ∙ k in cc
      | Some m ↦ λ e k.
          let first = operand_valued v f m p.factor p.operand form e in
          let rest = parts_valued v parts m g first.form k in
          record {
            form = rest.form;
            value_is = rest.value_is ∙ ap (λ z. z +ℤ parts_value v parts) first.value_is ∙ associated (value v f) (p.factor *ℤ operand_value v p.operand) (parts_value v parts);
          }
    ] refl h

constant_valued : (v : ℕ → ℤ) (constant : ℤ) (parts : List Part) (f : Combination) (b : Bool) → nat_lt (unsigned_abs constant) 1267650600228229401496703205376 ≡ b →
    with_parts parts (cond b (Some (constant_form constant)) None) ≡ Some f → value v f ≡ constant +ℤ parts_value v parts
constant_valued v constant parts f false e h = let impossible : None ≡ Some f = sym (nothing_stays parts) ∙ h in cc
constant_valued v constant parts f true e h =
    let form : IsForm (constant_form constant) = record { rising = tt; terms = λ k d l. absurd (omega (arith, l)); constant = (Decides-ltb _ _).0 e } in
    let whole = parts_valued v parts (constant_form constant) f form h in
    whole.value_is ∙ ap (λ z. z +ℤ parts_value v parts) (zero_first constant)
  where
    zero_first : (x : ℤ) → pos 0 +ℤ x ≡ x
    zero_first x = omega (arith, ints)

-- the form of a sum has its value
pub form_value : (v : ℕ → ℤ) (s : Sum) (f : Combination) → sum_form s ≡ Some f → value v f ≡ sum_value v s
unfolding sum_form
form_value v s f h = constant_valued v s.constant s.parts f (nat_lt (unsigned_abs s.constant) 1267650600228229401496703205376) refl h

shown_form : (facts : List Fact) (s : Sum) (o : Option Combination) → sum_form s ≡ o → shows_form facts o ≡ true → (v : ℕ → ℤ) → AllHold v facts → IsTrueAt v s
shown_form facts s None e h v all = absurd (false≢true h)
shown_form facts s (Some f) e h v all = subst (λ z. pos 0 ≤ℤ z) (form_value v s f e) (shown_holds facts f (shown_from_test facts f h) v all)

pub shown_true : (facts : List Fact) (s : Sum) → shows facts s ≡ true → (v : ℕ → ℤ) → AllHold v facts → IsTrueAt v s
shown_true facts s h v all = shown_form facts s (sum_form s) refl h v all

pub met_true : (facts : List Fact) (o : Obligation) → is_met facts o ≡ true → (v : ℕ → ℤ) → AllHold v facts → Any (IsTrueAt v) o.choices
met_true facts o h v all =
    let any = Any-from_list_any (λ s. shows facts s) o.choices h in
    (any.0, any.1, any.2, any.3, shown_true facts any.1 any.4 v all)

fact_true : (v : ℕ → ℤ) (s : Sum) (o : Option Combination) → sum_form s ≡ o → IsTrueAt v s → AllHold v (option_to_list (option_map (λ f. record { form = f }) o))
fact_true v s None e h = All-nil (λ (f : Fact). Holds v f.form)
fact_true v s (Some f) e h = All-cons (λ (f : Fact). Holds v f.form) (record { form = f }) [] (subst (λ z. pos 0 ≤ℤ z) (sym (form_value v s f e)) h) (All-nil (λ (f : Fact). Holds v f.form))

pub facts_true : (sums : List Sum) (v : ℕ → ℤ) → All (IsTrueAt v) sums → AllHold v (facts_of sums)
facts_true [] v all = All-nil (λ (f : Fact). Holds v f.form)
facts_true (s ∷ sums) v all =
    All-append (λ (f : Fact). Holds v f.form) (option_to_list (fact_of s)) (facts_of sums) (fact_true v s (sum_form s) refl (All-head (IsTrueAt v) s sums all)) (facts_true sums v (All-tail (IsTrueAt v) s sums all))

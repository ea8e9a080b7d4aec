-- Ends between which no register is left.
use Rattle.std.proofs.Common.{◌≡◌, ◌∙◌, ◌<◌, ◌≤◌, ◌^◌, suc, ℤ, pos, negsuc, ◌+ℤ◌, ◌-ℤ◌, ◌*ℤ◌, ◌≤ℤ◌, ◌<ℤ◌, Bool, true, false, cond, eqb, eq-eqb, List, [], ◌∷◌, ◌++◌, length, get_or, Option, Some, None, refl, sym, ap, arith, unsigned_abs}
use Rattle.std.specs.Prelude.{nat_lt}
use Rattle.std.proofs.lemmas.Bool.{lt-ltb, le-ltb}
use Rattle.std.proofs.lemmas.Bool.Decides.{same_from_decides}
use Rattle.std.proofs.lemmas.Int.{ints}
use Rattle.std.proofs.lemmas.List.{length-map, get_or-map}
use Rattle.linear.specs.declared.form.Fact.{Fact}
use Rattle.linear.specs.declared.form.RegisterId.{RegisterId}
use Rattle.linear.specs.declared.form.Term.{Term}
use Rattle.linear.specs.Forms.{AreSmall, Same}
use Rattle.linear.specs.Terms.{Combination, constant_form}
use Rattle.linear.specs.Made.{placed, with_terms}
use Rattle.linear.proofs.Making.{same_of, same_back}
use Rattle.ranges.specs.linear_shown.Shown.{IsShown, SameFacts}
use Rattle.ranges.specs.linear_shown.Tested.{is_shown}
use Rattle.ranges.proofs.linear_shown.Tested.{shown_from_test, shown_passes, decides_shown}
use Rattle.ranges.proofs.linear_shown.Respects.{shown_same}
use Rattle.program.specs.declared.instruction.Operand.TheVariants.{Register}
use Rattle.ranges.specs.cfg.declared.structure.Move.{Move}
use Rattle.ranges.specs.ranges_owed.Inequalities.{parts_of}
use Rattle.ranges.specs.Sums.{with_parts, start_of, shows_form, sum_form}
use Rattle.footprints_zones.specs.Zones.{between}
use Rattle.footprints_zones.proofs.Orders.{number_shown, number_unshown}
use Rattle.footprints_zones.specs.Levels.{IsSameTerm, IsLevel}

-- ---- what is shown of two forms that are the same

same_facts : (facts : List Fact) → SameFacts facts facts
same_facts facts = λ k d l. (
  (get_or facts k d).form,
  (suc k, omega (arith, l, length-map facts (λ (f : Fact). f.form)), get_or-map (λ (f : Fact). f.form) facts k d (get_or facts k d).form l),
  same_of (get_or facts k d).form,
)

shown_alike : (facts : List Fact) (e f : Combination) → Same e f → is_shown facts e ≡ is_shown facts f
shown_alike facts e f same =
    same_from_decides {P = IsShown facts e} (is_shown facts e) (is_shown facts f) (decides_shown facts e) (
      λ h. shown_same facts facts f e (same_back e f same) (same_facts facts) (shown_from_test facts f h),
      λ s. shown_passes facts f (shown_same facts facts e f same (same_facts facts) s),
    )

-- ---- no terms

pub level_without_terms : (for_high : List Move) (high : List Term) (for_low : List Move) (low : List Term) → high ≡ [] → low ≡ [] → IsLevel for_high high for_low low
unfolding sum_form
level_without_terms for_high high for_low low no_high no_low = rw (no_high, no_low) (record {
  same = λ facts number small. rw (lt-ltb (unsigned_abs number) 1267650600228229401496703205376 small) refl;
})

-- ---- one term and its opposite

abbrev term_of : RegisterId → ℤ → Term
term_of r z = record { register = r; coefficient = z }

-- a term of which nothing is left says nothing
nothing : (r : RegisterId) (number : ℤ) → Same (record { terms = term_of r (pos 0) ∷ []; constant = number }) (constant_form number)
nothing r number = record { terms = λ q. by (eqb r.0 q); constant = refl }
  where
    by : (b : Bool) → cond b (pos 0) (pos 0) +ℤ pos 0 ≡ pos 0
    by true = refl
    by false = refl

first_placed : (r : RegisterId) (amount : ℤ) → unsigned_abs amount < 16777216 → placed [] r amount ≡ Some (term_of r amount ∷ [])
unfolding placed
first_placed r amount small =
    let plain : pos 0 +ℤ amount ≡ amount = omega (arith, ints) in
    rw (plain, lt-ltb (unsigned_abs amount) 16777216 small) refl

second_placed : (r : RegisterId) (first amount : ℤ) → first +ℤ amount ≡ pos 0 → placed (term_of r first ∷ []) r amount ≡ Some (term_of r (pos 0) ∷ [])
unfolding placed
second_placed r first amount opposite = rw (le-ltb r.0 r.0 (omega arith), eq-eqb r.0 r.0 refl, opposite) refl

same_coefficient : (r : RegisterId) (z number : ℤ) → unsigned_abs z < 16777216 → unsigned_abs number < 1267650600228229401496703205376 →
    sum_form (record { constant = number; parts = record { factor = pos 1 *ℤ z; operand = Register r } ∷ record { factor = negsuc 0 *ℤ z; operand = Register r } ∷ [] }) ≡ Some (record { terms = term_of r (pos 0) ∷ []; constant = number })
unfolding sum_form
same_coefficient r z number small within =
    let once : pos 1 *ℤ z ≡ z = omega (arith, ints) in
    let opposite : z +ℤ (negsuc 0 *ℤ z) ≡ pos 0 = omega (arith, ints) in
    rw (lt-ltb (unsigned_abs number) 1267650600228229401496703205376 within, once)
    (ap (λ (ts : Option (List Term)). with_parts (record { factor = negsuc 0 *ℤ z; operand = Register r } ∷ []) (with_terms number ts)) (first_placed r z small)
    ∙ ap (λ (ts : Option (List Term)). with_terms number ts) (second_placed r z (negsuc 0 *ℤ z) opposite))

pub level_of_same_term : (for_high : List Move) (high : Term) (for_low : List Move) (low : Term) → unsigned_abs high.coefficient < 2 ^ 24 → IsSameTerm for_high high for_low low → IsLevel for_high (high ∷ []) for_low (low ∷ [])
level_of_same_term for_high high for_low low small same = record {
  same = λ facts number within. rw (same.of_high, same.of_low, ← same.coefficient, same_coefficient same.register high.coefficient number small within)
      (shown_alike facts (record { terms = term_of same.register (pos 0) ∷ []; constant = number }) (constant_form number) (nothing same.register number));
}

pub level_of_only_terms : (for_high : List Move) (high : List Term) (for_low : List Move) (low : List Term) (d : Term) → 1 ≤ length high → length high < 2 → 1 ≤ length low → length low < 2 → AreSmall high →
    IsSameTerm for_high (get_or high 0 d) for_low (get_or low 0 d) → IsLevel for_high high for_low low
level_of_only_terms for_high [] for_low low d high_least high_most low_least low_most small same = absurd (omega arith)
level_of_only_terms for_high (h ∷ i ∷ high) for_low low d high_least high_most low_least low_most small same = absurd (omega arith)
level_of_only_terms for_high (h ∷ []) for_low [] d high_least high_most low_least low_most small same = absurd (omega arith)
level_of_only_terms for_high (h ∷ []) for_low (l ∷ k ∷ low) d high_least high_most low_least low_most small same = absurd (omega arith)
level_of_only_terms for_high (h ∷ []) for_low (l ∷ []) d high_least high_most low_least low_most small same = level_of_same_term for_high h for_low l (small 0 d (omega arith)) same

-- ---- numbers alone

pub sum_of_constants : (high low : Combination) → high.terms ≡ [] → low.terms ≡ [] → (for_high for_low : List Move) → sum_form (between for_high high for_low low) ≡ start_of (high.constant -ℤ low.constant)
unfolding sum_form
sum_of_constants high low no_high no_low for_high for_low =
    ap (λ (ts : List Term). sum_form (record { constant = high.constant -ℤ low.constant; parts = parts_of for_high (pos 1) ts ++ parts_of for_low (negsuc 0) low.terms })) no_high
    ∙ ap (λ (ts : List Term). sum_form (record { constant = high.constant -ℤ low.constant; parts = parts_of for_low (negsuc 0) ts })) no_low

pub constant_shown : (facts : List Fact) (z : ℤ) → pos 0 ≤ℤ z → nat_lt (unsigned_abs z) 1267650600228229401496703205376 ≡ shows_form facts (start_of z)
constant_shown facts z least = by (nat_lt (unsigned_abs z) 1267650600228229401496703205376)
  where
    by : (b : Bool) → b ≡ shows_form facts (cond b (Some (constant_form z)) None)
    by true = sym (number_shown facts z least)
    by false = refl

pub constant_unshown : (facts : List Fact) (z : ℤ) → z <ℤ pos 0 → facts ≡ [] → false ≡ shows_form facts (start_of z)
constant_unshown facts z below none = by (nat_lt (unsigned_abs z) 1267650600228229401496703205376)
  where
    by : (b : Bool) → false ≡ shows_form facts (cond b (Some (constant_form z)) None)
    by true = sym (number_unshown facts z below none)
    by false = refl

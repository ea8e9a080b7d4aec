-- What facts show of two numbers' order.
use Rattle.std.proofs.Common.{◌≡◌, ◌<◌, ◌^◌, ℤ, to_z, of_z, FitsSigned, pos, negsuc, ◌-ℤ◌, ◌≤ℤ◌, ◌<ℤ◌, true, false, List, [], ◌∷◌, ◌++◌, Option, Some, None, ◌*ℤ◌, ◌+ℤ◌, ℕ, ◌+◌, length, drop, get_or, inl, refl, sym, ◌∙◌, ap, subst, arith, unsigned_abs}
use Rattle.std.specs.Int.{w128}
use Rattle.std.proofs.lemmas.Bool.{lt-ltb}
use Rattle.std.proofs.lemmas.Int.{ints, to_z-of_z}
use Rattle.std.proofs.lemmas.List.{drop_more}
use Rattle.linear.specs.declared.form.Fact.{Fact}
use Rattle.linear.specs.declared.form.Term.{Term}
use Rattle.linear.specs.Terms.{Combination, constant_form}
use Rattle.ranges.specs.linear_shown.Shown.{IsShown}
use Rattle.ranges.specs.linear_shown.Tested.{is_shown}
use Rattle.ranges.proofs.linear_shown.Tested.{shown_passes}
use Rattle.program.specs.declared.instruction.Operand.TheVariants.{Number}
use Rattle.ranges.specs.cfg.declared.structure.Move.{Move}
use Rattle.ranges.specs.ranges_owed.declared.sum.Part.{Part}
use Rattle.ranges.specs.ranges_owed.Inequalities.{operand_for, parts_of}
use Rattle.ranges.specs.Sums.{with_operand, with_parts, start_of, sum_form, shows, shows_form}
use Rattle.footprints_zones.specs.Levels.{IsLevel}
use Rattle.footprints_zones.specs.Zones.{between}

-- absent facts add up to 0, which is at most the number
at_least_zero : (facts : List Fact) (z : ℤ) → pos 0 ≤ℤ z → IsShown facts (constant_form z)
at_least_zero facts z least = record {
  f = constant_form (pos 0);
  g = constant_form (pos 0);
  a = 1;
  b = 1;
  f_is = (0, omega arith, refl);
  g_is = (0, omega arith, refl);
  a_is = inl refl;
  b_is = inl refl;
  sum = record { terms = λ r. refl; constant = least };
}

pub number_shown : (facts : List Fact) (z : ℤ) → pos 0 ≤ℤ z → is_shown facts (constant_form z) ≡ true
number_shown facts z least = shown_passes facts (constant_form z) (at_least_zero facts z least)

below_zero : (z : ℤ) → z <ℤ pos 0 → is_shown [] (constant_form z) ≡ false
unfolding is_shown
below_zero (pos n) below = absurd (omega (arith, ints, below))
below_zero (negsuc n) below = refl

pub number_unshown : (facts : List Fact) (z : ℤ) → z <ℤ pos 0 → facts ≡ [] → is_shown facts (constant_form z) ≡ false
number_unshown facts z below none = rw none (below_zero z below)

-- ---- sums in which numbers are put in for all registers

-- parts in two runs are added one run after the other
pub parts_in_two : (first second : List Part) (form : Option Combination) → with_parts (first ++ second) form ≡ with_parts second (with_parts first form)
parts_in_two [] second form = refl
parts_in_two (p ∷ first) [] None = refl
parts_in_two (p ∷ first) (q ∷ second) None = refl
parts_in_two (p ∷ first) second (Some f) = parts_in_two first second (with_operand f p.factor p.operand)

pub product_added : (number factor other product : ℤ) → product ≡ factor *ℤ other → unsigned_abs factor < 16777216 → unsigned_abs (product +ℤ number) < 1267650600228229401496703205376 → with_operand (constant_form number) factor (Number other) ≡ Some (constant_form (product +ℤ number))
product_added number factor other product is small within =
    rw (sym is, lt-ltb (unsigned_abs factor) 16777216 small, lt-ltb (unsigned_abs (product +ℤ number)) 1267650600228229401496703205376 within) refl

-- one more term, for whose register the number `other` is put in
pub term_added : (moves : List Move) (sign : ℤ) (terms : List Term) (k : ℕ) (d : Term) (sum factor other after : ℤ) (whole : Option Combination) → k < length terms → factor ≡ sign *ℤ (get_or terms k d).coefficient → operand_for moves (get_or terms k d).register ≡ Number other → with_operand (constant_form sum) factor (Number other) ≡ Some (constant_form after) → with_parts (parts_of moves sign (drop k terms)) (Some (constant_form sum)) ≡ whole → with_parts (parts_of moves sign (drop (k + 1) terms)) (Some (constant_form after)) ≡ whole
term_added moves sign terms k d sum factor other after whole within is put made before =
    let step : with_parts (parts_of moves sign (drop (k + 1) terms)) (with_operand (constant_form sum) factor (Number other)) ≡ whole = rw (drop_more terms k d within, sym is, put) at before in
    subst (λ o. with_parts (parts_of moves sign (drop (k + 1) terms)) o ≡ whole) made step

-- high - low is a number where both of its runs of terms are
pub number_of_sum : (for_high : List Move) (high : Combination) (for_low : List Move) (low : Combination) (upper number : ℤ) → unsigned_abs (high.constant -ℤ low.constant) < 1267650600228229401496703205376 → with_parts (parts_of for_high (pos 1) high.terms) (Some (constant_form (high.constant -ℤ low.constant))) ≡ Some (constant_form upper) → with_parts (parts_of for_low (negsuc 0) low.terms) (Some (constant_form upper)) ≡ Some (constant_form number) → sum_form (between for_high high for_low low) ≡ Some (constant_form number)
unfolding sum_form
number_of_sum for_high high for_low low upper number small of_high of_low =
    rw (
      parts_in_two (parts_of for_high (pos 1) high.terms) (parts_of for_low (negsuc 0) low.terms) (start_of (high.constant -ℤ low.constant)),
      lt-ltb (unsigned_abs (high.constant -ℤ low.constant)) 1267650600228229401496703205376 small,
      of_high,
    ) of_low

-- the same of what is shown
pub shown_of_sum : (for_high : List Move) (high : Combination) (for_low : List Move) (low : Combination) (upper number : ℤ) → unsigned_abs (high.constant -ℤ low.constant) < 1267650600228229401496703205376 → with_parts (parts_of for_high (pos 1) high.terms) (Some (constant_form (high.constant -ℤ low.constant))) ≡ Some (constant_form upper) → with_parts (parts_of for_low (negsuc 0) low.terms) (Some (constant_form upper)) ≡ Some (constant_form number) →
    (facts : List Fact) → shows facts (between for_high high for_low low) ≡ is_shown facts (constant_form number)
shown_of_sum for_high high for_low low upper number small of_high of_low facts =
    ap (shows_form facts) (number_of_sum for_high high for_low low upper number small of_high of_low)

-- ---- what the code reads of two ends

-- two constants of forms, and their difference, have 128 bits
pub difference_fits : (a b : ℤ) → unsigned_abs a < 2 ^ 100 → unsigned_abs b < 2 ^ 100 → FitsSigned w128 (to_z w128 (of_z w128 a) -ℤ to_z w128 (of_z w128 b))
difference_fits a b small_a small_b =
    let fits_a : FitsSigned w128 a = omega (arith, ints, small_a) in
    let fits_b : FitsSigned w128 b = omega (arith, ints, small_b) in
    let fits : FitsSigned w128 (a -ℤ b) = omega (arith, ints, small_a, small_b) in
    rw (to_z-of_z w128 a fits_a, to_z-of_z w128 b fits_b) fits

pub difference_read : (a b : ℤ) → unsigned_abs a < 2 ^ 100 → unsigned_abs b < 2 ^ 100 → to_z w128 (of_z w128 (to_z w128 (of_z w128 a) -ℤ to_z w128 (of_z w128 b))) ≡ a -ℤ b
difference_read a b small_a small_b =
    let fits_a : FitsSigned w128 a = omega (arith, ints, small_a) in
    let fits_b : FitsSigned w128 b = omega (arith, ints, small_b) in
    let fits : FitsSigned w128 (a -ℤ b) = omega (arith, ints, small_a, small_b) in
    rw (to_z-of_z w128 a fits_a, to_z-of_z w128 b fits_b) (to_z-of_z w128 (a -ℤ b) fits)

pub small_read : (z : ℤ) → unsigned_abs z < 2 ^ 100 → to_z w128 (of_z w128 z) ≡ z
small_read z small =
    let fits : FitsSigned w128 z = omega (arith, ints, small) in
    to_z-of_z w128 z fits

-- the terms and the constants of two ends
pub record AreEnds (high low : Combination) (high_terms low_terms : List Term) (start : ℤ) : Type 0 where
  pub of_high : high_terms ≡ high.terms
  pub of_low : low_terms ≡ low.terms
  pub begins : start ≡ high.constant -ℤ low.constant
  pub small : unsigned_abs start < 2 ^ 100

pub level_shown : (for_high : List Move) (high : Combination) (for_low : List Move) (low : Combination) (high_terms low_terms : List Term) (start : ℤ) → AreEnds high low high_terms low_terms start → IsLevel for_high high_terms for_low low_terms →
    (facts : List Fact) → shows facts (between for_high high for_low low) ≡ is_shown facts (constant_form start)
level_shown for_high high for_low low high_terms low_terms start are level facts = ap (shows facts) sum_is ∙ level.same facts start are.small
  where
    sum_is : between for_high high for_low low ≡ record { constant = start; parts = parts_of for_high (pos 1) high_terms ++ parts_of for_low (negsuc 0) low_terms }
    sum_is = rw (are.of_high, are.of_low, are.begins) refl

pub runs_shown : (for_high : List Move) (high : Combination) (for_low : List Move) (low : Combination) (high_terms low_terms : List Term) (start upper number : ℤ) → AreEnds high low high_terms low_terms start →
    with_parts (parts_of for_high (pos 1) high_terms) (Some (constant_form start)) ≡ Some (constant_form upper) → unsigned_abs upper < 2 ^ 100 →
    with_parts (parts_of for_low (negsuc 0) low_terms) (Some (constant_form (to_z w128 (of_z w128 upper)))) ≡ Some (constant_form number) → (facts : List Fact) → shows facts (between for_high high for_low low) ≡ is_shown facts (constant_form number)
runs_shown for_high high for_low low high_terms low_terms start upper number are of_high small of_low =
    let of_high2 = rw (are.of_high, are.begins) at of_high in
    let of_low2 = rw (are.of_low, small_read upper small) at of_low in
    shown_of_sum for_high high for_low low upper number (subst (λ (z : ℤ). unsigned_abs z < 2 ^ 100) are.begins are.small) of_high2 of_low2

-- the sum that is built of two ends
pub sum_between : (for_high : List Move) (high : Combination) (for_low : List Move) (low : Combination) (high_terms low_terms : List Term) (start : ℤ) (first parts : List Part) → high_terms ≡ high.terms → low_terms ≡ low.terms → start ≡ high.constant -ℤ low.constant →
    first ≡ parts_of for_high (pos 1) high_terms → parts ≡ first ++ parts_of for_low (negsuc 0) low_terms → record { constant = start; parts = parts } ≡ between for_high high for_low low
sum_between for_high high for_low low high_terms low_terms start first parts of_high of_low begins is_first is_parts = rw (is_parts, is_first, of_high, of_low, begins) refl

-- What facts about one register alone say of ends, and what they show of two ends' order.
use Rattle.std.proofs.Common.{◌≡◌, ◌∙◌, ◌⊎◌, ℕ, suc, ◌<◌, ◌^◌, ℤ, pos, negsuc, ◌+ℤ◌, ◌-ℤ◌, ◌*ℤ◌, ◌≤ℤ◌, ◌<ℤ◌, Bool, true, false, cond, eqb, List, Option, Some, inl, inr, refl, sym, ap, subst, arith, unsigned_abs}
use Rattle.std.specs.Prelude.{IfSome}
use Rattle.std.specs.List.{Contains}
use Rattle.std.proofs.Math.IntN.{zero-*ℤ, *ℤ-zero}
use Rattle.std.proofs.lemmas.Bool.{cases_eq}
use Rattle.std.proofs.lemmas.Int.{ints}
use Rattle.std.proofs.lemmas.List.{length-map, get_or-map}
use Rattle.linear.specs.declared.form.Fact.{Fact}
use Rattle.linear.specs.declared.form.RegisterId.{RegisterId}
use Rattle.linear.specs.Terms.{Combination, coefficient_of, constant_form}
use Rattle.linear.proofs.Values.{distributes, distributes_right}
use Rattle.ranges.specs.linear_shown.Shown.{IsFactor}
use Rattle.ranges.specs.linear_shown.Sides.{sides}
use Rattle.ranges.specs.linear_shown.Tested.{is_shown}
use Rattle.ranges.proofs.linear_shown.Tested.{shown_passes}
use Rattle.ranges.specs.cfg.declared.structure.Move.{Move}
use Rattle.ranges.specs.Sums.{shows_form, sum_form}
use Rattle.footprints_zones.specs.declared.ends.End.{End}
use Rattle.footprints_zones.specs.Ends.{Says, IsLeast, IsEnd, AreOther}
use Rattle.footprints_zones.specs.Zones.{between, shows_order}
use Rattle.footprints_zones.proofs.EndSums.{share, share_none, share_own, share_other, sum_of_ends}

-- ---- so many times a register is at least a number

-- nothing more
plus_none : (z : ℤ) → z +ℤ pos 0 ≡ z
plus_none z = omega (arith, ints)

-- no times it is 0
pub least_none : (facts : List Fact) (register : RegisterId) → IsLeast facts register (pos 0) (pos 0)
least_none facts register = record {
  fact = constant_form (pos 0);
  factor = 1;
  known = (0, omega arith, refl);
  own = inl refl;
  terms = λ q. share_none register q;
  constant = refl;
}

-- a fact's form is one of the sides
side_of_fact : (facts : List Fact) (f : Fact) → Contains facts f → Contains (sides facts) f.form
side_of_fact facts f (k, within, is) = (
  suc k,
  omega (arith, within, length-map facts (λ (f : Fact). f.form)),
  get_or-map (λ (f : Fact). f.form) facts k f f.form within ∙ ap (λ (f : Fact). f.form) is,
)

-- a sign taken so often
share_scaled : (register : RegisterId) (times sign : ℤ) (factor q : ℕ) → times ≡ pos factor *ℤ sign → share register times q ≡ pos factor *ℤ share register sign q
share_scaled register times sign factor q is = by (eqb register.0 q)
  where
    by : (b : Bool) → cond b times (pos 0) +ℤ pos 0 ≡ pos factor *ℤ (cond b sign (pos 0) +ℤ pos 0)
    by true =
        plus_none times ∙ is ∙ ap (λ (z : ℤ). pos factor *ℤ z) (sym (plus_none sign))
    by false = sym (*ℤ-zero (pos factor))

-- what a fact says, taken so often
least_said : (facts : List Fact) (register : RegisterId) (sign number times least : ℤ) (factor : ℕ) → Says facts register sign number → times ≡ pos factor *ℤ sign →
    factor ≡ unsigned_abs times → (times ≡ pos 0 → ⊥) → (pos factor *ℤ number) +ℤ least ≡ pos 0 → IsLeast facts register times least
least_said facts register sign number times least factor (f, in_facts, says) is_times is_factor some is_least = record {
  fact = f.form;
  factor = factor;
  known = side_of_fact facts f in_facts;
  own = inr (is_factor, some);
  terms = λ q. share_scaled register times sign factor q is_times ∙ ap (λ (g : Combination). pos factor *ℤ coefficient_of g.terms q) (sym says);
  constant = ap (λ (g : Combination). (pos factor *ℤ g.constant) +ℤ least) says ∙ is_least;
}

-- more than no times: as often what the register is at least
pub least_up : (facts : List Fact) (register : RegisterId) (least times : ℤ) → Says facts register (pos 1) (pos 0 -ℤ least) → pos 0 <ℤ times → IsLeast facts register times (times *ℤ least)
least_up facts register least (negsuc n) says up = absurd (omega (arith, ints, up))
least_up facts register least (pos n) says up =
    let is_times : pos n ≡ pos n *ℤ pos 1 = omega (arith, ints) in
    let level : (pos 0 -ℤ least) +ℤ least ≡ pos 0 = omega (arith, ints) in
    let is_least : (pos n *ℤ (pos 0 -ℤ least)) +ℤ (pos n *ℤ least) ≡ pos 0 = sym (distributes (pos n) (pos 0 -ℤ least) least) ∙ ap (λ (z : ℤ). pos n *ℤ z) level ∙ *ℤ-zero (pos n) in
    least_said facts register (pos 1) (pos 0 -ℤ least) (pos n) (pos n *ℤ least) n says is_times refl (λ (e : pos n ≡ pos 0). omega (arith, ints, up, e)) is_least

-- fewer than no times: as often what it is at most
pub least_down : (facts : List Fact) (register : RegisterId) (most times : ℤ) → Says facts register (negsuc 0) most → times <ℤ pos 0 → IsLeast facts register times (times *ℤ most)
least_down facts register most (pos n) says down = absurd (omega (arith, ints, down))
least_down facts register most (negsuc n) says down =
    let is_times : negsuc n ≡ pos (suc n) *ℤ negsuc 0 = omega (arith, ints) in
    let level : pos (suc n) +ℤ negsuc n ≡ pos 0 = omega (arith, ints) in
    let is_least : (pos (suc n) *ℤ most) +ℤ (negsuc n *ℤ most) ≡ pos 0 = sym (distributes_right (pos (suc n)) (negsuc n) most) ∙ ap (λ (z : ℤ). z *ℤ most) level ∙ zero-*ℤ most in
    least_said facts register (negsuc 0) most (negsuc n) (negsuc n *ℤ most) (suc n) says is_times refl (λ (e : negsuc n ≡ pos 0). omega (arith, ints, e)) is_least

-- ---- what is shown

-- multiples of two registers, or of one at most
abbrev pub AreApart : RegisterId → ℤ → RegisterId → ℤ → Type 0
AreApart r k s l = (k ≡ pos 0) ⊎ ((l ≡ pos 0) ⊎ (r.0 ≡ s.0 → ⊥))

-- a factor is 1, or the size of the form's coefficient at its register
factor_of : (e : Combination) (r s : RegisterId) (k l : ℤ) (factor : ℕ) → (factor ≡ 1) ⊎ ((factor ≡ unsigned_abs k) × (k ≡ pos 0 → ⊥)) → AreApart r k s l → coefficient_of e.terms r.0 ≡ share r k r.0 +ℤ share s l r.0 → IsFactor e factor
factor_of e r s k l factor (inl one) apart is = inl one
factor_of e r s k l factor (inr (size, some)) (inl none) is = absurd (some none)
factor_of e r s k l factor (inr (size, some)) (inr (inl none)) is =
    let alone : coefficient_of e.terms r.0 ≡ k = is ∙ ap (λ (z : ℤ). share r k r.0 +ℤ share s z r.0) none ∙ ap (λ (z : ℤ). share r k r.0 +ℤ z) (share_none s r.0) ∙ ap (λ (z : ℤ). z +ℤ pos 0) (share_own r k r.0 refl) ∙ plus_none k in
    inr (r.0, size ∙ ap unsigned_abs (sym alone))
factor_of e r s k l factor (inr (size, some)) (inr (inr differ)) is =
    let alone : coefficient_of e.terms r.0 ≡ k = is ∙ ap (λ (z : ℤ). share r k r.0 +ℤ z) (share_other s l r.0 (λ (e : s.0 ≡ r.0). differ (sym e))) ∙ ap (λ (z : ℤ). z +ℤ pos 0) (share_own r k r.0 refl) ∙ plus_none k in
    inr (r.0, size ∙ ap unsigned_abs (sym alone))

-- the same of the other
apart_back : (r s : RegisterId) (k l : ℤ) → AreApart r k s l → AreApart s l r k
apart_back r s k l (inl none) = inr (inl none)
apart_back r s k l (inr (inl none)) = inl none
apart_back r s k l (inr (inr differ)) = inr (inr (λ (e : s.0 ≡ r.0). differ (sym e)))

-- a sum in the other order
swapped : (x y z : ℤ) → x ≡ y +ℤ z → x ≡ z +ℤ y
swapped x y z is = omega (arith, ints, is)

-- what is left of two sides and a constant is not below 0
in_sum : (x y high low c : ℤ) → x +ℤ high ≡ pos 0 → y +ℤ low ≡ pos 0 → pos 0 ≤ℤ ((high +ℤ low) +ℤ c) → (x +ℤ y) ≤ℤ c
in_sum x y high low c is_x is_y least = omega (arith, ints, is_x, is_y, least)

-- two multiples that are at least a number each
shown_by_two : (facts : List Fact) (e : Combination) (r s : RegisterId) (k l high low : ℤ) → IsLeast facts r k high → IsLeast facts s l low → AreApart r k s l →
    ((q : ℕ) → coefficient_of e.terms q ≡ share r k q +ℤ share s l q) → pos 0 ≤ℤ ((high +ℤ low) +ℤ e.constant) → is_shown facts e ≡ true
shown_by_two facts e r s k l high low of_high of_low apart terms least = shown_passes facts e (record {
  f = of_high.fact;
  g = of_low.fact;
  a = of_high.factor;
  b = of_low.factor;
  f_is = of_high.known;
  g_is = of_low.known;
  a_is = factor_of e r s k l of_high.factor of_high.own apart (terms r.0);
  b_is = factor_of e s r l k of_low.factor of_low.own (apart_back r s k l apart) (swapped (coefficient_of e.terms s.0) (share r k s.0) (share s l s.0) (terms s.0));
  sum = record {
    terms = λ q. terms q ∙ ap (λ (z : ℤ). z +ℤ share s l q) (of_high.terms q) ∙ ap (λ (z : ℤ). (pos of_high.factor *ℤ coefficient_of of_high.fact.terms q) +ℤ z) (of_low.terms q);
    constant = in_sum (pos of_high.factor *ℤ of_high.fact.constant) (pos of_low.factor *ℤ of_low.fact.constant) high low e.constant of_high.constant of_low.constant least;
  };
})

-- ---- two ends in order

-- what is left of the high register stays within the bounds where the low one is taken off
apart_small : (r s : RegisterId) (k l : ℤ) → AreApart r k s l → unsigned_abs k < 2 ^ 24 → unsigned_abs l < 2 ^ 24 → unsigned_abs ((pos 0 -ℤ l) +ℤ share r k s.0) < 2 ^ 24
apart_small r s k l (inl none) small_k small_l = rw (none, share_none r s.0) (omega (arith, ints, small_l))
apart_small r s k l (inr (inr differ)) small_k small_l = rw (share_other r k s.0 differ) (omega (arith, ints, small_l))
apart_small r s k l (inr (inl none)) small_k small_l = elim (cases_eq r.0 s.0) [
  | inl same ↦ rw (share_own r k s.0 same) (omega (arith, ints, none, small_k))
  | inr differ ↦ rw (share_other r k s.0 differ) (omega (arith, ints, small_l))
]

-- and with the opposite of one
negated_apart : (r s : RegisterId) (k l : ℤ) → AreApart r k s l → AreApart r k s (pos 0 -ℤ l)
negated_apart r s k l (inl none) = inl none
negated_apart r s k l (inr (inl none)) = inr (inl (rw none refl))
negated_apart r s k l (inr (inr differ)) = inr (inr differ)

-- a difference that is shown, in its form
shown_in_form : (facts : List Fact) (for_high : List Move) (high : Combination) (for_low : List Move) (low whole : Combination) → sum_form (between for_high high for_low low) ≡ Some whole → is_shown facts whole ≡ true →
    shows_order facts for_high high for_low low ≡ true
unfolding shows_order
shown_in_form facts for_high high for_low low whole is shown = ap (shows_form facts) is ∙ shown

-- the numbers of an end that is past another
past_sum : (least most ch cl number : ℤ) → most ≤ℤ least → number ≡ ch -ℤ cl → pos 0 ≤ℤ (((least -ℤ ch) +ℤ (cl -ℤ most)) +ℤ number)
past_sum least most ch cl number more is = omega (arith, ints, more, is)

-- the high end is at least what the low one is at most
pub past_shown : (facts : List Fact) (for_high : List Move) (high : Combination) (for_low : List Move) (low : Combination) (h l : End) (least most : ℤ) →
    IsEnd facts for_high high h → IsEnd facts for_low low l → AreOther h l → h.least ≡ Some least → l.most ≡ Some most → most ≤ℤ least → shows_order facts for_high high for_low low ≡ true
past_shown facts for_high high for_low low h l least most of_high of_low other is_least is_most more =
    let r : RegisterId = h.bounds.register in
    let s : RegisterId = l.bounds.register in
    let k : ℤ = h.coefficient in
    let o : ℤ = pos 0 -ℤ l.coefficient in
    let made = sum_of_ends for_high high for_low low r s k h.constant l.coefficient l.constant of_high.value of_low.value of_high.small_form of_low.small_form of_high.small_constant of_low.small_constant of_high.small (apart_small r s k l.coefficient other of_high.small of_low.small) in
    let by_high : IsLeast facts r k (least -ℤ h.constant) = subst (λ (b : Option ℤ). IfSome b (λ z. IsLeast facts r k (z -ℤ h.constant))) is_least of_high.between.least in
    let by_low : IsLeast facts s o (l.constant -ℤ most) = subst (λ (b : Option ℤ). IfSome b (λ z. IsLeast facts s o (l.constant -ℤ z))) is_most of_low.between.most in
    shown_in_form facts for_high high for_low low made.whole made.is
    (shown_by_two facts made.whole r s k o (least -ℤ h.constant) (l.constant -ℤ most) by_high by_low (negated_apart r s k l.coefficient other) made.terms (past_sum least most h.constant l.constant made.whole.constant more made.constant))

-- so many times a register less so many times the same
share_less : (r s : RegisterId) (k l : ℤ) (q : ℕ) → r.0 ≡ s.0 → share r k q +ℤ share s (pos 0 -ℤ l) q ≡ share r (k -ℤ l) q +ℤ share r (pos 0) q
share_less r s k l q same = ap (λ (n : ℕ). share r k q +ℤ (cond (eqb n q) (pos 0 -ℤ l) (pos 0) +ℤ pos 0)) (sym same) ∙ by (eqb r.0 q)
  where
    by : (b : Bool) → (cond b k (pos 0) +ℤ pos 0) +ℤ (cond b (pos 0 -ℤ l) (pos 0) +ℤ pos 0) ≡ (cond b (k -ℤ l) (pos 0) +ℤ pos 0) +ℤ (cond b (pos 0) (pos 0) +ℤ pos 0)
    by true = omega (arith, ints)
    by false = refl

-- and where a multiple of the same register is taken off
same_small : (r s : RegisterId) (k l : ℤ) → r.0 ≡ s.0 → unsigned_abs (k -ℤ l) < 2 ^ 24 → unsigned_abs ((pos 0 -ℤ l) +ℤ share r k s.0) < 2 ^ 24
same_small r s k l same small = rw (share_own r k s.0 same) (omega (arith, ints, small))

-- the numbers of a difference
difference_sum : (least ch cl number : ℤ) → cl ≤ℤ (least +ℤ ch) → number ≡ ch -ℤ cl → pos 0 ≤ℤ ((least +ℤ pos 0) +ℤ number)
difference_sum least ch cl number more is = omega (arith, ints, more, is)

-- the difference of two multiples of one register is at least the difference of the constants
pub difference_shown : (facts : List Fact) (for_high : List Move) (high : Combination) (for_low : List Move) (low : Combination) (h l : End) (times least : ℤ) →
    IsEnd facts for_high high h → IsEnd facts for_low low l → h.bounds.register.0 ≡ l.bounds.register.0 → times ≡ h.coefficient -ℤ l.coefficient → unsigned_abs times < 2 ^ 24 →
    IsLeast facts h.bounds.register times least → l.constant ≤ℤ (least +ℤ h.constant) → shows_order facts for_high high for_low low ≡ true
difference_shown facts for_high high for_low low h l times least of_high of_low same is_times small by_high more =
    let r : RegisterId = h.bounds.register in
    let s : RegisterId = l.bounds.register in
    let k : ℤ = h.coefficient in
    let within : unsigned_abs (k -ℤ l.coefficient) < 2 ^ 24 = subst (λ (z : ℤ). unsigned_abs z < 2 ^ 24) is_times small in
    let made = sum_of_ends for_high high for_low low r s k h.constant l.coefficient l.constant of_high.value of_low.value of_high.small_form of_low.small_form of_high.small_constant of_low.small_constant of_high.small (same_small r s k l.coefficient same within) in
    let terms : (q : ℕ) → coefficient_of made.whole.terms q ≡ share r times q +ℤ share r (pos 0) q = λ q. made.terms q ∙ share_less r s k l.coefficient q same ∙ ap (λ (z : ℤ). share r z q +ℤ share r (pos 0) q) (sym is_times) in
    shown_in_form facts for_high high for_low low made.whole made.is
    (shown_by_two facts made.whole r r times (pos 0) least (pos 0) by_high (least_none facts r) (inr (inl refl)) terms (difference_sum least h.constant l.constant made.whole.constant more made.constant))

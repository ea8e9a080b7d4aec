-- How ends are made, and what is read of the words that they are made of.
use Rattle.std.proofs.Common.{◌≡◌, ◌∙◌, ◌<◌, ◌≤◌, ◌^◌, ℤ, pos, ◌+ℤ◌, ◌-ℤ◌, ◌*ℤ◌, ◌≤ℤ◌, List, [], ◌∷◌, Option, Some, None, inr, refl, sym, ap, subst, arith, ◌*◌, length, get_or, to_z, of_z, FitsSigned, unsigned_abs}
use Rattle.std.specs.Prelude.{IfSome, IsTrue}
use lib.Signed.{le_z, le_z_yes}
use Rattle.std.specs.Int.{w64, w128}
use Rattle.std.proofs.Math.Nat.{mul-le-mul}
use Rattle.std.proofs.lemmas.Int.{ints, unsigned_abs-mul, to_z-of_z}
use Rattle.linear.specs.declared.form.Fact.{Fact}
use Rattle.linear.specs.declared.form.RegisterId.{RegisterId}
use Rattle.linear.specs.declared.form.Term.{Term}
use Rattle.linear.specs.Terms.{Combination}
use Rattle.ranges.proofs.linear_shown.Tested.{T_from_true}
use Rattle.program.specs.declared.instruction.Operand.TheVariants.{Register}
use Rattle.ranges.specs.cfg.declared.structure.Move.{Move}
use Rattle.ranges.specs.ranges_owed.Inequalities.{operand_for}
use Rattle.footprints_zones.specs.declared.bounds.RegisterBounds.{RegisterBounds}
use Rattle.footprints_zones.specs.declared.ends.End.{End}
use Rattle.footprints_zones.specs.Ends.{IsLeast, ComesTo, IsBetween, IsEnd}

-- ---- words that are read

-- a number, read
abbrev pub read : ℤ → ℤ
read z = to_z w128 (of_z w128 z)

-- the product of two words fits twice the width
pub product_small : (x y : ℤ) → FitsSigned w64 x → FitsSigned w64 y → unsigned_abs (x *ℤ y) ≤ 2 ^ 126
product_small x y fits_x fits_y =
    let small_x : unsigned_abs x ≤ 2 ^ 63 = omega (arith, ints, fits_x) in
    let small_y : unsigned_abs y ≤ 2 ^ 63 = omega (arith, ints, fits_y) in
    let most : unsigned_abs x * unsigned_abs y ≤ 2 ^ 63 * 2 ^ 63 = mul-le-mul small_x small_y in
    omega (arith, unsigned_abs-mul x y, most)

-- the product of two words, read
pub product_read : (a b x y : ℤ) → FitsSigned w64 x → FitsSigned w64 y → a ≡ to_z w64 (of_z w64 x) → b ≡ to_z w64 (of_z w64 y) → read (read a *ℤ read b) ≡ x *ℤ y
product_read a b x y fits_x fits_y is_a is_b =
    let wide_x : FitsSigned w128 x = omega (arith, ints, fits_x) in
    let wide_y : FitsSigned w128 y = omega (arith, ints, fits_y) in
    let small = product_small x y fits_x fits_y in
    let wide : FitsSigned w128 (x *ℤ y) = fits_small (x *ℤ y) small in
    rw (is_a, is_b, to_z-of_z w64 x fits_x, to_z-of_z w64 y fits_y, to_z-of_z w128 x wide_x, to_z-of_z w128 y wide_y) (to_z-of_z w128 (x *ℤ y) wide)
  where
    fits_small : (z : ℤ) → unsigned_abs z ≤ 2 ^ 126 → FitsSigned w128 z
    fits_small z small = omega (arith, ints, small)

-- that product fits
pub product_fits : (a b x y : ℤ) → FitsSigned w64 x → FitsSigned w64 y → a ≡ to_z w64 (of_z w64 x) → b ≡ to_z w64 (of_z w64 y) → FitsSigned w128 (read a *ℤ read b)
product_fits a b x y fits_x fits_y is_a is_b =
    let wide_x : FitsSigned w128 x = omega (arith, ints, fits_x) in
    let wide_y : FitsSigned w128 y = omega (arith, ints, fits_y) in
    rw (is_a, is_b, to_z-of_z w64 x fits_x, to_z-of_z w64 y fits_y, to_z-of_z w128 x wide_x, to_z-of_z w128 y wide_y) (fits_small (x *ℤ y) (product_small x y fits_x fits_y))
  where
    fits_small : (z : ℤ) → unsigned_abs z ≤ 2 ^ 126 → FitsSigned w128 z
    fits_small z small = omega (arith, ints, small)

-- a coefficient times a word, read
pub multiple_small : (a b x y : ℤ) → unsigned_abs x < 2 ^ 24 → FitsSigned w64 x → FitsSigned w64 y → a ≡ to_z w64 (of_z w64 x) → b ≡ to_z w64 (of_z w64 y) → unsigned_abs (read (read a *ℤ read b)) < 2 ^ 125
multiple_small a b x y small fits_x fits_y is_a is_b =
    let small_x : unsigned_abs x ≤ 2 ^ 24 = omega (arith, small) in
    let small_y : unsigned_abs y ≤ 2 ^ 63 = omega (arith, ints, fits_y) in
    let most : unsigned_abs x * unsigned_abs y ≤ 2 ^ 24 * 2 ^ 63 = mul-le-mul small_x small_y in
    rw (product_read a b x y fits_x fits_y is_a is_b) (omega (arith, unsigned_abs-mul x y, most))

-- a sum with a word, read
sum_read : (m constant offset : ℤ) → unsigned_abs m ≤ 2 ^ 126 → FitsSigned w64 constant → offset ≡ to_z w64 (of_z w64 constant) → read (read m +ℤ read offset) ≡ m +ℤ constant
sum_read m constant offset small fits is =
    let wide : FitsSigned w128 constant = omega (arith, ints, fits) in
    let wide_m : FitsSigned w128 m = omega (arith, ints, small) in
    let wide_sum : FitsSigned w128 (m +ℤ constant) = omega (arith, ints, small, fits) in
    rw (is, to_z-of_z w64 constant fits, to_z-of_z w128 m wide_m, to_z-of_z w128 constant wide) (to_z-of_z w128 (m +ℤ constant) wide_sum)

-- such a sum fits
pub sum_fits : (m constant offset : ℤ) → unsigned_abs m ≤ 2 ^ 126 → FitsSigned w64 constant → offset ≡ to_z w64 (of_z w64 constant) → FitsSigned w128 (read m +ℤ read offset)
sum_fits m constant offset small fits is =
    let wide : FitsSigned w128 constant = omega (arith, ints, fits) in
    let wide_m : FitsSigned w128 m = omega (arith, ints, small) in
    let wide_sum : FitsSigned w128 (m +ℤ constant) = omega (arith, ints, small, fits) in
    rw (is, to_z-of_z w64 constant fits, to_z-of_z w128 m wide_m, to_z-of_z w128 constant wide) wide_sum

-- a word less a number, read
less_read : (m constant offset : ℤ) → unsigned_abs m ≤ 2 ^ 126 → FitsSigned w64 constant → offset ≡ to_z w64 (of_z w64 constant) → read (read offset -ℤ read m) ≡ constant -ℤ m
less_read m constant offset small fits is =
    let wide : FitsSigned w128 constant = omega (arith, ints, fits) in
    let wide_m : FitsSigned w128 m = omega (arith, ints, small) in
    let wide_less : FitsSigned w128 (constant -ℤ m) = omega (arith, ints, small, fits) in
    rw (is, to_z-of_z w64 constant fits, to_z-of_z w128 m wide_m, to_z-of_z w128 constant wide) (to_z-of_z w128 (constant -ℤ m) wide_less)

-- an order that is read
pub order_read : (a b low high least : ℤ) → FitsSigned w64 low → FitsSigned w64 high → unsigned_abs least ≤ 2 ^ 126 → a ≡ to_z w64 (of_z w64 low) → b ≡ to_z w64 (of_z w64 high) →
    IsTrue (le_z (read a) (read (read least +ℤ read b))) → low ≤ℤ (least +ℤ high)
order_read a b low high least fits_low fits_high small is_a is_b more =
    let wide : FitsSigned w128 low = omega (arith, ints, fits_low) in
    let plain : IsTrue (le_z low (least +ℤ high)) = rw (sum_read least high b small fits_high is_b, is_a, to_z-of_z w64 low fits_low, to_z-of_z w128 low wide) at more in
    le_z_yes (T_from_true (le_z low (least +ℤ high)) plain)

-- a number put in for the register of the one term, read
pub number_read : (product coefficient number constant form_constant sum : ℤ) → product ≡ to_z w64 (of_z w64 coefficient) *ℤ to_z w64 (of_z w64 number) → FitsSigned w64 coefficient → FitsSigned w64 number →
    constant ≡ form_constant → unsigned_abs form_constant < 2 ^ 64 → sum ≡ read (read product +ℤ read constant) → sum ≡ form_constant +ℤ (coefficient *ℤ number)
number_read product coefficient number constant form_constant sum is_product fits_coefficient fits_number is_constant small is =
    let is_plain : product ≡ coefficient *ℤ number = rw (to_z-of_z w64 coefficient fits_coefficient, to_z-of_z w64 number fits_number) at is_product in
    let small_product : unsigned_abs product ≤ 2 ^ 126 = rw is_plain (product_small coefficient number fits_coefficient fits_number) in
    let wide : FitsSigned w128 constant = narrow constant form_constant is_constant small in
    let wide_product : FitsSigned w128 product = omega (arith, ints, small_product) in
    let wide_sum : FitsSigned w128 (product +ℤ constant) = narrow_sum product constant form_constant is_constant small small_product in
    is ∙ rw (to_z-of_z w128 product wide_product, to_z-of_z w128 constant wide, to_z-of_z w128 (product +ℤ constant) wide_sum, is_plain, is_constant) (turned form_constant (coefficient *ℤ number))
  where
    narrow : (x y : ℤ) → x ≡ y → unsigned_abs y < 2 ^ 64 → FitsSigned w128 x
    narrow x y e small = omega (arith, ints, e, small)

    narrow_sum : (p x y : ℤ) → x ≡ y → unsigned_abs y < 2 ^ 64 → unsigned_abs p ≤ 2 ^ 126 → FitsSigned w128 (p +ℤ x)
    narrow_sum p x y e small small_p = omega (arith, ints, e, small, small_p)

    turned : (x p : ℤ) → p +ℤ x ≡ x +ℤ p
    turned x p = omega (arith, ints)

-- ---- ends

-- a number moved by a constant and back
back : (m constant : ℤ) → m ≡ (m +ℤ constant) -ℤ constant
back m constant = omega (arith, ints)

-- a number taken from a constant twice
forth : (m constant : ℤ) → m ≡ constant -ℤ (constant -ℤ m)
forth m constant = omega (arith, ints)

-- what an end is at least, read from what its multiple is
pub end_least : (facts : List Fact) (register : RegisterId) (times m constant offset : ℤ) (least : Option ℤ) → least ≡ Some (read (read m +ℤ read offset)) → unsigned_abs m ≤ 2 ^ 126 → FitsSigned w64 constant → offset ≡ to_z w64 (of_z w64 constant) →
    IsLeast facts register times m → IfSome least (λ z. IsLeast facts register times (z -ℤ constant))
end_least facts register times m constant offset least is_least small fits is known =
    subst (λ (o : Option ℤ). IfSome o (λ z. IsLeast facts register times (z -ℤ constant))) (sym is_least)
    (subst (λ (z : ℤ). IsLeast facts register times (z -ℤ constant)) (sym (sum_read m constant offset small fits is)) (subst (λ (z : ℤ). IsLeast facts register times z) (back m constant) known))

-- what it is at most, from what the opposite of its multiple is at least
pub end_most : (facts : List Fact) (register : RegisterId) (times m constant offset : ℤ) → unsigned_abs m ≤ 2 ^ 126 → FitsSigned w64 constant → offset ≡ to_z w64 (of_z w64 constant) →
    IsLeast facts register times m → IsLeast facts register times (constant -ℤ read (read offset -ℤ read m))
end_most facts register times m constant offset small fits is known =
    subst (λ (z : ℤ). IsLeast facts register times (constant -ℤ z)) (sym (less_read m constant offset small fits is)) (subst (λ (z : ℤ). IsLeast facts register times z) (forth m constant) known)

-- the opposite of a coefficient, read
pub opposite_read : (k : ℤ) → FitsSigned w64 k → unsigned_abs k < 2 ^ 24 → to_z w64 (of_z w64 (pos 0 -ℤ to_z w64 (of_z w64 k))) ≡ pos 0 -ℤ k
opposite_read k fits small =
    let fits_opposite : FitsSigned w64 (pos 0 -ℤ k) = omega (arith, ints, small) in
    rw (to_z-of_z w64 k fits) (to_z-of_z w64 (pos 0 -ℤ k) fits_opposite)

-- a number is an end where the form comes to it
pub number_is_end : (facts : List Fact) (moves : List Move) (form : Combination) (number : ℤ) (end : Option End) →
    IfSome end (λ e. e.constant ≡ number) → IfSome end (λ e. e.coefficient ≡ pos 0) → IfSome end (λ e. unsigned_abs e.constant < 2 ^ 64) → IfSome end (IsBetween facts) →
    ((r : RegisterId) (k c : ℤ) → k ≡ pos 0 → c ≡ number → ComesTo moves form r k c) → unsigned_abs form.constant < 2 ^ 64 → IfSome end (IsEnd facts moves form)
number_is_end facts moves form number None is_number is_none small between comes small_form = tt
number_is_end facts moves form number (Some e) is_number is_none small between comes small_form = record {
  value = comes e.bounds.register e.coefficient e.constant is_none is_number;
  between = between;
  small = rw is_none (omega arith);
  small_form = small_form;
  small_constant = small;
}

-- the one term of a list
pub only_term : (ts : List Term) (d : Term) → 1 ≤ length ts → length ts < 2 → ts ≡ get_or ts 0 d ∷ []
only_term [] d least most = absurd (omega arith)
only_term (t ∷ []) d least most = refl
only_term (t ∷ u ∷ ts) d least most = absurd (omega arith)

-- so many times a register is an end where the form comes to it
pub register_is_end : (facts : List Fact) (moves : List Move) (form : Combination) (bounds : RegisterBounds) (register : RegisterId) (term : Term) (e : End) →
    e.bounds ≡ bounds → bounds.register ≡ register → e.coefficient ≡ term.coefficient → e.constant ≡ form.constant → IsBetween facts e →
    form.terms ≡ term ∷ [] → operand_for moves term.register ≡ Register register → unsigned_abs term.coefficient < 2 ^ 24 → unsigned_abs form.constant < 2 ^ 64 → IsEnd facts moves form e
register_is_end facts moves form bounds register term e is_bounds is_register is_coefficient is_constant between terms put small small_form =
    let own : e.bounds.register ≡ register = ap (λ (b : RegisterBounds). b.register) is_bounds ∙ is_register in
    record {
      value = inr (inr (record { term = term; terms = terms; put = put ∙ ap (λ (r : RegisterId). Register r) (sym own); times = is_coefficient; constant = is_constant }));
      between = between;
      small = rw is_coefficient small;
      small_form = small_form;
      small_constant = rw is_constant small_form;
    }

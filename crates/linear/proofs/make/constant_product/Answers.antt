use Rattle.std.proofs.Common.{◌≡◌, ◌∙◌, ℕ, ◌<◌, ◌≤◌, ◌*◌, ◌^◌, ℤ, ◌*ℤ◌, ap, sym, subst, arith, FitsSigned, to_z, of_z}
use Rattle.std.specs.Int.{w64, w128}
use Rattle.std.specs.Int.RustNames.{unsigned_abs}
use Rattle.std.proofs.lemmas.Int.{unsigned_abs-mul, to_z-of_z, fits_signed_mul}
use Rattle.std.proofs.Math.Nat.{mul-le-mul}
use Rattle.linear.proofs.make.constant_product.Goals as goal

is_product : (f k r : ℤ) → FitsSigned w64 f → FitsSigned w128 k → FitsSigned w128 r → r ≡ to_z w64 (of_z w64 f) → to_z w128 (of_z w128 r) *ℤ to_z w128 (of_z w128 k) ≡ f *ℤ k
is_product f k r fits_f fits_k fits_r e = (λ i. to_z-of_z w128 r fits_r i *ℤ to_z-of_z w128 k fits_k i) ∙ ap (λ x. x *ℤ k) (e ∙ to_z-of_z w64 f fits_f)

product_fits : (f k : ℤ) → unsigned_abs f < 2 ^ 24 → unsigned_abs k < 2 ^ 100 → FitsSigned w128 (f *ℤ k)
product_fits f k small_f small_k = fits_signed_mul w128 f k (2 ^ 24) (2 ^ 100) (omega arith) (omega arith) (omega arith)

product_small : (f k : ℤ) → unsigned_abs f < 2 ^ 24 → unsigned_abs k < 2 ^ 100 → unsigned_abs (f *ℤ k) < 2 ^ 125
product_small f k small_f small_k =
    let below_f : unsigned_abs f ≤ 2 ^ 24 = omega arith in
    let below_k : unsigned_abs k ≤ 2 ^ 100 = omega arith in
    let most : unsigned_abs f * unsigned_abs k ≤ 2 ^ 24 * 2 ^ 100 = mul-le-mul below_f below_k in
    below (unsigned_abs (f *ℤ k)) (unsigned_abs f * unsigned_abs k) (unsigned_abs-mul f k) most
  where
    below : (m n : ℕ) → m ≡ n → n ≤ 2 ^ 24 * 2 ^ 100 → m < 2 ^ 125
    below m n e most = omega arith

fits_given : (r f k : ℤ) → FitsSigned w64 f → FitsSigned w128 k → FitsSigned w128 r → r ≡ to_z w64 (of_z w64 f) → unsigned_abs f < 2 ^ 24 → unsigned_abs k < 2 ^ 100 → FitsSigned w128 (to_z w128 (of_z w128 r) *ℤ to_z w128 (of_z w128 k))
fits_given r f k fits_f fits_k fits_r e small_f small_k = subst (λ z. FitsSigned w128 z) (sym (is_product f k r fits_f fits_k fits_r e)) (product_fits f k small_f small_k)

pub overflow_mul-result : goal.overflow_mul-result
overflow_mul-result c = fits_given c.from.result c.args.factor c.args.constant c.ranges.factor c.ranges.constant (record { sfits = c.from.type_inv }) c.from.ensures c.requires.factor c.requires.constant

pub returns-clause-value : goal.returns-clause-value
returns-clause-value c =
    to_z-of_z w128 _ (fits_given c.from.result c.args.factor c.args.constant c.ranges.factor c.ranges.constant (record { sfits = c.from.type_inv }) c.from.ensures c.requires.factor c.requires.constant)
    ∙ is_product c.args.factor c.args.constant c.from.result c.ranges.factor c.ranges.constant (record { sfits = c.from.type_inv }) c.from.ensures

pub returns-clause-small : goal.returns-clause-small
returns-clause-small c =
    subst (λ z. unsigned_abs z < 2 ^ 125)
    (sym (to_z-of_z w128 _ (fits_given c.from.result c.args.factor c.args.constant c.ranges.factor c.ranges.constant (record { sfits = c.from.type_inv }) c.from.ensures c.requires.factor c.requires.constant)
    ∙ is_product c.args.factor c.args.constant c.from.result c.ranges.factor c.ranges.constant (record { sfits = c.from.type_inv }) c.from.ensures))
    (product_small c.args.factor c.args.constant c.requires.factor c.requires.constant)

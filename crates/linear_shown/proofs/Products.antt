-- Products of two signed numbers that stand as bits.
use Rattle.std.proofs.Common.{◌≡◌, ◌∙◌, ℕ, ◌<◌, ◌≤◌, ◌*◌, ◌^◌, ℤ, ◌*ℤ◌, sym, subst, arith, FitsSigned, to_z, of_z}
use Rattle.std.specs.Int.RustNames.{unsigned_abs}
use Rattle.std.proofs.lemmas.Int.{unsigned_abs-mul, to_z-of_z, fits_signed_mul}
use Rattle.std.proofs.Math.Nat.{mul-le-mul}
use mir.Syntax.{Width}
use mir.Val.{hbits}

-- r and s are f and k, both within the width, and the product of their bounds is too
pub record AreFactors (w : Width) (r s f k : ℤ) (m n : ℕ) : Type 0 where
  pub fits_r : FitsSigned w r
  pub fits_s : FitsSigned w s
  pub is_f : r ≡ f
  pub is_k : s ≡ k
  pub bound_f : unsigned_abs f ≤ m
  pub bound_k : unsigned_abs k ≤ n
  pub fits : m * n < 2 ^ hbits w

value : (w : Width) (r s f k : ℤ) (m n : ℕ) → AreFactors w r s f k m n → to_z w (of_z w r) *ℤ to_z w (of_z w s) ≡ f *ℤ k
value w r s f k m n a = (λ i. to_z-of_z w r a.fits_r i *ℤ to_z-of_z w s a.fits_s i) ∙ (λ i. a.is_f i *ℤ a.is_k i)

pub product_fits : (w : Width) (r s f k : ℤ) (m n : ℕ) → AreFactors w r s f k m n → FitsSigned w (to_z w (of_z w r) *ℤ to_z w (of_z w s))
product_fits w r s f k m n a = subst (λ z. FitsSigned w z) (sym (value w r s f k m n a)) (fits_signed_mul w f k m n a.bound_f a.bound_k a.fits)

pub product_is : (w : Width) (r s f k : ℤ) (m n : ℕ) → AreFactors w r s f k m n → to_z w (of_z w (to_z w (of_z w r) *ℤ to_z w (of_z w s))) ≡ f *ℤ k
product_is w r s f k m n a = to_z-of_z w (to_z w (of_z w r) *ℤ to_z w (of_z w s)) (product_fits w r s f k m n a) ∙ value w r s f k m n a

below : (p q most top : ℕ) → p ≡ q → q ≤ most → most < top → p < top
below p q most top e le lt = omega arith

pub product_small : (w : Width) (r s f k : ℤ) (m n top : ℕ) → AreFactors w r s f k m n → m * n < top → unsigned_abs (to_z w (of_z w (to_z w (of_z w r) *ℤ to_z w (of_z w s)))) < top
product_small w r s f k m n top a lt =
    subst (λ z. unsigned_abs z < top) (sym (product_is w r s f k m n a))
    (below (unsigned_abs (f *ℤ k)) (unsigned_abs f * unsigned_abs k) (m * n) top (unsigned_abs-mul f k) (mul-le-mul a.bound_f a.bound_k) lt)

-- What is found by looking up.
use Rattle.std.proofs.Common.{◌≡◌, ◌↔◌, ℕ, ℤ, pos, ◌+ℤ◌, ◌*ℤ◌, List, [], arith}
use Rattle.std.proofs.lemmas.Int.{ints}
use Rattle.linear.specs.declared.form.Term.{Term}
use Rattle.linear.specs.Forms.{IsRising}
use Rattle.linear.specs.Terms.{coefficient_of}
use Rattle.linear_shown.specs.Search.{Agrees}
use Rattle.linear_shown.proofs.Coefficients.{agree_sums, sums_agree}

one_and_nothing : (x y : ℤ) → x ≡ (pos 1 *ℤ y) +ℤ (pos 0 *ℤ pos 0) → x ≡ y
one_and_nothing x y h = omega (arith, ints, h)

and_nothing : (x y : ℤ) → x ≡ y → x ≡ (pos 1 *ℤ y) +ℤ (pos 0 *ℤ pos 0)
and_nothing x y h = omega (arith, ints, h)

pub same_terms : (e f : List Term) → IsRising e → IsRising f → ((r : ℕ) → Agrees e 1 f 0 [] r) ↔ ((r : ℕ) → coefficient_of e r ≡ coefficient_of f r)
same_terms e f re rf = (
  λ h r. one_and_nothing (coefficient_of e r) (coefficient_of f r) (agree_sums e f [] 1 0 re rf tt h r),
  λ h. sums_agree e f [] 1 0 re rf tt (λ r. and_nothing (coefficient_of e r) (coefficient_of f r) (h r)),
)

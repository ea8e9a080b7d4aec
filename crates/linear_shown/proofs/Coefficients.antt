-- On terms whose registers rise a coefficient is found by looking it up.
use Rattle.std.proofs.Common.{◌≡◌, ◌∙◌, ◌⊎◌, ℕ, suc, ◌<◌, ℤ, pos, ◌+ℤ◌, ◌*ℤ◌, eq-eqb, List, [], ◌∷◌, length, get_or, inl, inr, sym, refl, subst, arith}
use Rattle.std.specs.List.{All}
use Rattle.std.proofs.lemmas.Int.{ints}
use Rattle.std.proofs.lemmas.Bool.{cases_eq, ne_eqb}
use Rattle.linear.specs.declared.form.Term.{Term}
use Rattle.linear.specs.Forms.{IsRising}
use Rattle.linear.specs.Terms.{coefficient_of}
use Rattle.linear.specs.Lookup.{looked_up}
use Rattle.linear_shown.specs.Search.{Agrees}
use Rattle.linear.proofs.Coefficients.{none_above}

zero_plus : (x : ℤ) → pos 0 +ℤ x ≡ x
zero_plus x = omega (arith, ints)

pub looked_up_is : (ts : List Term) (r : ℕ) → IsRising ts → looked_up ts r ≡ coefficient_of ts r
looked_up_is [] r rising = refl
looked_up_is (t ∷ ts) r rising = elim (cases_eq t.register.0 r) [
  | inl e ↦ rw (eq-eqb t.register.0 r e, none_above ts r (subst (λ r. All (λ (u : Term). r < u.register.0) ts) e rising.0)) (omega (arith, ints))
  | inr ne ↦ rw (ne_eqb t.register.0 r ne, looked_up_is ts r rising.1) (omega (arith, ints))
]

-- e = a * f + b * g at each register, by sums and by looking up
pub agree_sums : (e f g : List Term) (a b : ℕ) → IsRising e → IsRising f → IsRising g → ((r : ℕ) → Agrees e a f b g r) →
    (r : ℕ) → coefficient_of e r ≡ (pos a *ℤ coefficient_of f r) +ℤ (pos b *ℤ coefficient_of g r)
agree_sums e f g a b re rf rg all r = rw (looked_up_is e r re, looked_up_is f r rf, looked_up_is g r rg) at (all r)

pub sums_agree : (e f g : List Term) (a b : ℕ) → IsRising e → IsRising f → IsRising g →
    ((r : ℕ) → coefficient_of e r ≡ (pos a *ℤ coefficient_of f r) +ℤ (pos b *ℤ coefficient_of g r)) → (r : ℕ) → Agrees e a f b g r
sums_agree e f g a b re rf rg all r = rw (looked_up_is e r re, looked_up_is f r rf, looked_up_is g r rg) (all r)

-- a register has no coefficient, or that of a term
pub named_or_none : (ts : List Term) (r : ℕ) → IsRising ts → (coefficient_of ts r ≡ pos 0) ⊎ ((k : ℕ) × (k < length ts) × ((d : Term) → coefficient_of ts r ≡ (get_or ts k d).coefficient))
named_or_none [] r rising = inl refl
named_or_none (t ∷ ts) r rising = elim (cases_eq t.register.0 r) [
  | inl e ↦ inr (0, omega arith, λ (d : Term). sym (looked_up_is (t ∷ ts) r rising) ∙ rw (eq-eqb t.register.0 r e) refl)
  | inr ne ↦ elim (named_or_none ts r rising.1) [
    | inl none ↦ inl (rw (ne_eqb t.register.0 r ne, none) (omega (arith, ints)))
    | inr (k, within, is) ↦ inr (suc k, omega arith, λ (d : Term). rw (ne_eqb t.register.0 r ne) (zero_plus (coefficient_of ts r)) ∙ is d)
  ]
]

-- What facts show: e = a * f + b * g + c for two facts f and g, of which either may be absent, a constant c that is not
-- below 0, and factors a and b that are 1 or the size of one of e's coefficients.
use Rattle.std.specs.Prelude.{◌≡◌, ℕ, ◌⊎◌, ℤ, pos, ◌+ℤ◌, ◌*ℤ◌, ◌≤ℤ◌, List, All, Contains, unsigned_abs}
use Rattle.linear.specs.declared.form.Fact.{Fact}
use Rattle.linear.specs.Forms.{Same, Holds}
use Rattle.linear.specs.Terms.{Combination, coefficient_of}
use Rattle.linear_shown.specs.Sides.{sides}

pub record IsSum (e : Combination) (a : ℕ) (f : Combination) (b : ℕ) (g : Combination) : Type 0 where
  pub terms : (r : ℕ) →
      coefficient_of e.terms r ≡ (pos a *ℤ coefficient_of f.terms r) +ℤ (pos b *ℤ coefficient_of g.terms r)
  pub constant : ((pos a *ℤ f.constant) +ℤ (pos b *ℤ g.constant)) ≤ℤ e.constant

abbrev pub IsFactor : Combination → ℕ → Type 0
IsFactor e a = (a ≡ 1) ⊎ ((r : ℕ) × (a ≡ unsigned_abs (coefficient_of e.terms r)))

pub record IsShown (facts : List Fact) (e : Combination) : Type 0 where
  pub f : Combination
  pub g : Combination
  pub a : ℕ
  pub b : ℕ
  pub f_is : Contains (sides facts) f
  pub g_is : Contains (sides facts) g
  pub a_is : IsFactor e a
  pub b_is : IsFactor e b
  pub sum : IsSum e a f b g

-- each fact is true of these values
abbrev pub AllHold : (ℕ → ℤ) → List Fact → Type 0
AllHold v facts = All (λ f. Holds v f.form) facts

-- each form of the first facts is the same as one of the others'
abbrev pub SameFacts : List Fact → List Fact → Type 0
SameFacts facts others = All (λ f. (g : Combination) × Contains (sides others) g × Same f.form g) facts

-- The search for what shows a form: factors and facts by their places.
use Rattle.std.specs.Prelude.{◌≡◌, ℕ, ℤ, pos, ◌+ℤ◌, ◌*ℤ◌, Bool, true, not, List, [], ◌∷◌, map, reverse, Contains}
use Rattle.std.specs.Prelude.{Option, Some, None}
use Rattle.std.specs.Prelude.{slice_index_or, unsigned_abs}
use Rattle.std.specs.Ordering.{int_eq}
use Rattle.linear.specs.declared.form.RegisterId.{RegisterId}
use Rattle.linear.specs.declared.form.Term.{Term}
use Rattle.linear.specs.declared.form.Fact.{Fact}
use Rattle.linear.specs.Terms.{Combination, coefficient_of, constant_form}
use Rattle.linear.specs.Lookup.{looked_up}
use Rattle.linear_shown.specs.Shown.{IsSum}

abbrev pub Agrees : List Term → ℕ → List Term → ℕ → List Term → ℕ → Type 0
Agrees e a f b g r = looked_up e r ≡ (pos a *ℤ looked_up f r) +ℤ (pos b *ℤ looked_up g r)

-- 1, and then the sizes of the coefficients
abbrev pub factors : List Term → List ℕ
factors terms = 1 ∷ map (λ t. unsigned_abs t.coefficient) terms

-- an absent fact, and then the facts' forms, the newest first
abbrev pub newest : List Fact → List Combination
newest facts = constant_form (pos 0) ∷ reverse (map (λ f. f.form) facts)

abbrev pub side_at : List Fact → ℕ → Combination
side_at facts i = slice_index_or (newest facts) i (constant_form (pos 0))

-- a * f taken away from e leaves something of the register
abbrev pub IsLeft : List Term → ℕ → List Term → RegisterId → Type 0
IsLeft e a f r = coefficient_of e r.0 ≡ pos a *ℤ coefficient_of f r.0 → ⊥

-- whether some of the register, if one is named, is among the terms
abbrev pub has_some : List Term → Option RegisterId → Bool
has_some ts None = true
has_some ts (Some r) = not (int_eq (coefficient_of ts r.0) (pos 0))

-- some second factor, some second fact, some first factor
abbrev pub IsFoundByB : Combination → ℕ → Combination → Combination → Type 0
IsFoundByB e a f g = (b : ℕ) × Contains (factors e.terms) b × IsSum e a f b g

abbrev pub IsFoundByA : List Fact → Combination → Combination → ℕ → Type 0
IsFoundByA facts e f a = (g : Combination) × Contains (newest facts) g × IsFoundByB e a f g

abbrev pub IsFoundWith : List Fact → Combination → Combination → Type 0
IsFoundWith facts e f = (a : ℕ) × Contains (factors e.terms) a × IsFoundByA facts e f a

-- some first fact that has some of a register
abbrev pub IsFoundFrom : List Fact → Combination → Option RegisterId → Combination → Type 0
IsFoundFrom facts e lead f = (has_some f.terms lead ≡ true) × IsFoundWith facts e f

abbrev pub IsFound : List Fact → Combination → Option RegisterId → Type 0
IsFound facts e lead = (f : Combination) × Contains (newest facts) f × IsFoundFrom facts e lead f

-- Linear forms over registers, and what they say of the registers' values.
use Rattle.std.specs.Prelude.{◌≡◌, ℕ, ◌<◌, ◌^◌, ℤ, pos, negsuc, ◌+ℤ◌, ◌*ℤ◌, ◌≤ℤ◌, List, [], ◌∷◌, ◌++◌, All}
use Rattle.std.specs.Prelude.{unsigned_abs}
use Rattle.linear.specs.declared.form.Term.{Term}
use Rattle.linear.specs.Terms.{Combination, coefficient_of, constant_form}

-- ---- the bounds of the type

-- the registers rise
abbrev pub IsRising : List Term → Type 0
IsRising [] = Unit {0}
IsRising (t ∷ ts) = All (λ u. t.register.0 < u.register.0) ts × IsRising ts

abbrev pub AreSmall : List Term → Type 0
AreSmall terms = All (λ t. unsigned_abs t.coefficient < 2 ^ 24) terms

pub record IsForm (f : Combination) : Type 0 where
  pub rising : IsRising f.terms
  pub terms : AreSmall f.terms
  pub constant : unsigned_abs f.constant < 2 ^ 100

-- ---- sums, products and replacement

abbrev pub register_form : ℕ → Combination
register_form r = record { terms = record { register = record { 0 = r }; coefficient = pos 1 } ∷ []; constant = pos 0 }

abbrev pub plus : Combination → Combination → Combination
plus e f = record { terms = e.terms ++ f.terms; constant = e.constant +ℤ f.constant }

abbrev pub scaled_terms : ℤ → List Term → List Term
scaled_terms c [] = []
scaled_terms c (t ∷ ts) = record { register = t.register; coefficient = c *ℤ t.coefficient } ∷ scaled_terms c ts

abbrev pub scaled : ℤ → Combination → Combination
scaled c e = record { terms = scaled_terms c e.terms; constant = c *ℤ e.constant }

abbrev pub minus : Combination → Combination → Combination
minus e f = plus e (scaled (negsuc 0) f)

-- each register replaced by a form
abbrev pub put_terms : (ℕ → Combination) → List Term → Combination
put_terms σ [] = constant_form (pos 0)
put_terms σ (t ∷ ts) = plus (scaled t.coefficient (σ t.register.0)) (put_terms σ ts)

abbrev pub put : (ℕ → Combination) → Combination → Combination
put σ e = plus (put_terms σ e.terms) (constant_form e.constant)

-- the same coefficient at each register, and the same constant
pub record Same (e f : Combination) : Type 0 where
  pub terms : (r : ℕ) → coefficient_of e.terms r ≡ coefficient_of f.terms r
  pub constant : e.constant ≡ f.constant

-- ---- what a form says of the registers' values

abbrev pub value_of : (ℕ → ℤ) → List Term → ℤ
value_of v [] = pos 0
value_of v (t ∷ ts) = (t.coefficient *ℤ v t.register.0) +ℤ value_of v ts

abbrev pub value : (ℕ → ℤ) → Combination → ℤ
value v e = value_of v e.terms +ℤ e.constant

abbrev pub Holds : (ℕ → ℤ) → Combination → Type 0
Holds v e = pos 0 ≤ℤ value v e

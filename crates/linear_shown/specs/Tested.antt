-- Shown, as a test: each two of the facts' forms are tried with each two factors.
use Rattle.std.specs.Prelude.{ℕ, pos, ◌+ℤ◌, ◌*ℤ◌, Bool, ◌&&◌, int_le, List, ◌∷◌, map, unsigned_abs}
use Rattle.std.specs.List.{list_any, list_all}
use Rattle.std.specs.Ordering.{int_eq}
use Rattle.linear.specs.declared.form.Term.{Term}
use Rattle.linear.specs.declared.form.Fact.{Fact}
use Rattle.linear.specs.Terms.{Combination, coefficient_of}
use Rattle.linear_shown.specs.Sides.{sides}

-- e and a * f + b * g have one coefficient at the register
abbrev pub agrees : Combination → ℕ → Combination → ℕ → Combination → ℕ → Bool
agrees e a f b g r = int_eq (coefficient_of e.terms r)
    ((pos a *ℤ coefficient_of f.terms r) +ℤ (pos b *ℤ coefficient_of g.terms r))

-- at each register that some of the terms name
abbrev pub agree_along : List Term → Combination → ℕ → Combination → ℕ → Combination → Bool
agree_along terms e a f b g = list_all (λ t. agrees e a f b g t.register.0) terms

abbrev pub is_sum : Combination → Combination → Combination → ℕ → ℕ → Bool
is_sum e f g a b = (agree_along e.terms e a f b g && (agree_along f.terms e a f b g &&
    agree_along g.terms e a f b g)) && int_le ((pos a *ℤ f.constant) +ℤ (pos b *ℤ g.constant)) e.constant

-- 1, and the sizes of the coefficients
abbrev pub factors_of : Combination → List ℕ
factors_of e = 1 ∷ map (λ t. unsigned_abs (coefficient_of e.terms t.register.0)) e.terms

abbrev pub is_pair : Combination → Combination → Combination → Bool
is_pair e f g = list_any (λ a. list_any (is_sum e f g a) (factors_of e)) (factors_of e)

unfoldable pub is_shown : List Fact → Combination → Bool
is_shown facts e = list_any (λ f. list_any (is_pair e f) (sides facts)) (sides facts)

-- Forms within bounds, and one more term among terms whose registers rise.
use Rattle.std.specs.Prelude.{◌≡◌, ℕ, ◌<◌, ◌^◌, ℤ, pos, List, [], ◌∷◌, unsigned_abs}
use Rattle.linear.specs.declared.form.RegisterId.{RegisterId}
use Rattle.linear.specs.declared.form.Term.{Term}
use Rattle.linear.specs.Forms.{IsRising, AreSmall}
use Rattle.linear.specs.Terms.{Combination, coefficient_of}

-- a register times a number
abbrev pub term_form : RegisterId → ℤ → Combination
term_form register coefficient =
    record { terms = record { register = register; coefficient = coefficient } ∷ []; constant = pos 0 }

-- each coefficient and the constant are within the bounds of a form
pub record IsBounded (f : Combination) : Type 0 where
  pub terms : (r : ℕ) → unsigned_abs (coefficient_of f.terms r) < 2 ^ 24
  pub constant : unsigned_abs f.constant < 2 ^ 100

-- the terms say the same as the old ones with the term before them
pub record IsTermAdded (term : Term) (old new : List Term) : Type 0 where
  pub same : (r : ℕ) → coefficient_of new r ≡ coefficient_of (term ∷ old) r
  pub rising : IsRising new
  pub small : AreSmall new

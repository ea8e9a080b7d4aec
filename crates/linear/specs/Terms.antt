-- Linear forms over registers.
use Rattle.std.specs.Prelude.{ℕ, ℤ, pos, ◌+ℤ◌, ◌==◌, List, [], ◌∷◌}
use Rattle.std.specs.Prelude.{if◌then◌else◌}
use Rattle.linear.specs.declared.form.Term.{Term}

-- the sum of its terms and its constant
pub record Combination : Type 0 where
  pub terms : List Term
  pub constant : ℤ

abbrev pub coefficient_of : List Term → ℕ → ℤ
coefficient_of [] r = pos 0
coefficient_of (t ∷ ts) r = (if t.register.0 == r then t.coefficient else pos 0) +ℤ coefficient_of ts r

abbrev pub constant_form : ℤ → Combination
constant_form c = record { terms = []; constant = c }

-- What is looked up in the terms of a form.
use Rattle.std.specs.Prelude.{ℕ, ℤ, pos, ◌==◌, List, [], ◌∷◌, if◌then◌else◌}
use Rattle.linear.specs.declared.form.Term.{Term}

-- the coefficient in the first term of a register, 0 where there is none
abbrev pub looked_up : List Term → ℕ → ℤ
looked_up [] r = pos 0
looked_up (t ∷ ts) r = if t.register.0 == r then t.coefficient else looked_up ts r

-- Whether arguments are those that a program takes.
use Rattle.std.specs.Prelude.{ℕ, suc, List, length, position, Option, Some, None, Bool, cond, not}
use Rattle.std.specs.Prelude.{eqb, ℤ, int_le, slice_get}
use Rattle.std.specs.Option.{option_map}
use Rattle.linear.specs.Terms.{Combination}
use Rattle.linear.specs.Forms.{value}
use Rattle.program.specs.declared.annotation.Inequality.{Inequality}
use Rattle.program.specs.declared.function.Function.{Function}
use Rattle.program.specs.declared.function.Program.{Program}
use Rattle.semantics.specs.Written.{or_zero}

-- the form's value, where register i is argument i; what is no argument counts as 0
abbrev pub value_at : List ℤ → Combination → ℤ
value_at arguments form = value (λ r. or_zero (slice_get arguments r)) form

abbrev pub is_met : List ℤ → Inequality → Bool
is_met arguments r = int_le (value_at arguments r.low) (value_at arguments r.high)

abbrev pub unmet_of : List ℤ → Option Function → Option ℕ
unmet_of arguments None = Some 0
unmet_of arguments (Some main) = cond (eqb (length main.parameters) (length arguments))
    (option_map (λ k. suc k) (position (λ r. not (is_met arguments r)) main.requirements)) (Some 0)

-- 0 for a wrong number of arguments of main, else its first requirement that they do not meet, counted from 1
abbrev pub unmet_in : Program → List ℤ → Option ℕ
unmet_in prog arguments = unmet_of arguments (slice_get prog.functions prog.main.0)

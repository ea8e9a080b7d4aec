-- A function's parameters, where there is one.
use Rattle.std.specs.Prelude.{ℕ, length, Option, Some, None}
use Rattle.program.specs.declared.function.Function.{Function}

-- the number of parameters, which are the function's first registers
abbrev pub parameters_in : Option Function → ℕ
parameters_in None = 0
parameters_in (Some function) = length function.parameters

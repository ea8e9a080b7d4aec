-- What a name of a function stands for, and what a register holds.
use Rattle.std.specs.Prelude.{ℕ, nat_eq, Bool, true, false, List}
use Rattle.syntax.specs.declared.operator.Width.{Width}
use Rattle.syntax.specs.Widths.{is_same_width}
use Rattle.types.specs.declared.names.scope.Holding.{Holding}
use Rattle.types.specs.declared.names.scope.Holding.TheVariants as holding
use Rattle.types.specs.declared.names.scope.Named.{Named}
use Rattle.types.specs.declared.names.scope.Origin.{Origin}
use Rattle.types.specs.declared.names.scope.Origin.TheVariants as origin

-- the names of a function with what they stand for, in the order of their definitions
abbrev pub Scope : Type 0
Scope = List (List ℕ × Named)

abbrev pub is_number_of : Width → Holding → Bool
is_number_of width (holding.Number other) = is_same_width other width
is_number_of width other = false

abbrev pub is_number : Holding → Bool
is_number (holding.Number other) = true
is_number other = false

abbrev pub is_truth : Holding → Bool
is_truth holding.Truth = true
is_truth other = false

abbrev pub is_region : Holding → Bool
is_region holding.Region = true
is_region other = false

abbrev pub is_parameter : Origin → Bool
is_parameter origin.Parameter = true
is_parameter other = false

-- an instruction of this block that is no phi defines the register
abbrev pub is_step_of : ℕ → Origin → Bool
is_step_of block (origin.Step other) = nat_eq other block
is_step_of block other = false

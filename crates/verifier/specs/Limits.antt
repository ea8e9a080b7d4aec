-- What the limits of a text leave of the program that it means.
use Rattle.std.specs.Prelude.{◌≡◌, ℕ, ◌≤◌, length, Some, slice_get}
use Rattle.program.specs.declared.function.Function.{Function}
use Rattle.program.specs.declared.function.Program.{Program}

pub record IsWithinLimits (program : Program) : Type 0 where
  pub functions : length program.functions ≤ 256
  pub blocks : (f : ℕ) (function : Function) → slice_get program.functions f ≡ Some function →
      length function.blocks ≤ 1024
  pub measures : (f : ℕ) (function : Function) → slice_get program.functions f ≡ Some function →
      function.measure.bound ≤ 4096

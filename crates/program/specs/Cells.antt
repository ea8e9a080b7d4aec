-- The cells of objects, as a program declares them.
use Rattle.std.specs.Prelude.{ℕ, Option, Some, None}
use Rattle.program.specs.declared.function.Alloca.{Alloca as AllocaKind}
use Rattle.program.specs.declared.function.Global.{Global as GlobalKind}
use Rattle.program.specs.declared.function.Parameter.{Parameter as ParameterKind}
use Rattle.program.specs.declared.function.Parameter.TheVariants as parameter

abbrev pub global_cells : Option GlobalKind → ℕ
global_cells None = 0
global_cells (Some g) = g.cells

abbrev pub alloca_cells : Option AllocaKind → ℕ
alloca_cells None = 0
alloca_cells (Some a) = a.cells

abbrev pub parameter_cells : Option ParameterKind → ℕ
parameter_cells (Some (parameter.Pointer cells)) = cells
parameter_cells other = 0

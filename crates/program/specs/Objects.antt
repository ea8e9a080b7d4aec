-- The cells of an object as the function's text declares it.
use Rattle.std.specs.Prelude.{ℕ, slice_get}
use Rattle.program.specs.declared.function.Function.{Function}
use Rattle.program.specs.declared.function.Program.{Program}
use Rattle.program.specs.declared.identifier.ObjectName.{ObjectName}
use Rattle.program.specs.declared.identifier.ObjectName.TheVariants.{Global, Alloca, Parameter}
use Rattle.program.specs.Cells.{global_cells, alloca_cells, parameter_cells}

abbrev pub object_cells : Program → Function → ObjectName → ℕ
object_cells program function (Global g) = global_cells (slice_get program.globals g.0)
object_cells program function (Alloca a) = alloca_cells (slice_get function.allocas a.0)
object_cells program function (Parameter r) = parameter_cells (slice_get function.parameters r.0)

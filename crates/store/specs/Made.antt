-- Memory that was made for a program.
use Rattle.std.specs.Prelude.{◌≡◌, List, map}
use Rattle.program.specs.declared.function.Global.{Global}
use Rattle.program.specs.declared.function.Program.{Program}
use Rattle.store.specs.Cells.{NamedCells}
use Rattle.store.specs.Rows.{sizes_of}

-- there are as many globals as the program declares, each with just its cells
abbrev pub IsMadeFor : Program → List NamedCells → Type 0
IsMadeFor program memory = sizes_of memory ≡ map (λ (g : Global). g.cells) program.globals

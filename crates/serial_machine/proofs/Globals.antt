-- Memory that was made for a program has values in its globals' cells.
use Rattle.std.proofs.Common.{◌≡◌, ℕ, ◌<◌, List, Option, Some, None, refl, arith, slice_get}
use Rattle.std.specs.Prelude.{IsSome}
use Rattle.semantics.specs.Frames.{global_cells}
use Rattle.program.specs.declared.function.Global.{Global}
use Rattle.program.specs.declared.function.Program.{Program}
use Rattle.store.specs.Cells.{NamedCells, cell_at}
use Rattle.store.specs.Named.{HasGlobalCells}
use Rattle.laws_schedule.specs.Promise.{HasGlobals}
use Rattle.store.specs.Serially.{memory_of_globals}

pub globals_there : (program : Program) (memory : List NamedCells) → HasGlobalCells program memory → (g i : ℕ) → i < global_cells (slice_get program.globals g) → IsSome (cell_at memory g i)
globals_there program memory has g i = by (slice_get program.globals g) refl
  where
    by : (o : Option Global) → slice_get program.globals g ≡ o → i < global_cells o → IsSome (cell_at memory g i)
    by None is low = absurd (omega (arith, low))
    by (Some global) is low = has g i global is low

pub globals_given : (program : Program) (memory : List NamedCells) → HasGlobalCells program memory → HasGlobals program (memory_of_globals memory)
globals_given program memory has g i low = globals_there program memory has g i low

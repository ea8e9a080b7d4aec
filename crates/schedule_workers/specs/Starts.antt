-- How a run begins: with the cells of the globals in one row.
use Rattle.std.specs.Prelude.{◌≡◌, ℕ, ◌+◌, ◌<◌, List, length, map, sum, take, Some, ℤ, slice_get}
use Rattle.semantics.specs.Cells.{Shared, Memory}
use Rattle.semantics.specs.Events as running
use Rattle.program.specs.declared.function.Function.{Function}
use Rattle.program.specs.declared.function.Global.{Global}
use Rattle.program.specs.declared.function.Program.{Program}
use Rattle.frame_engine.specs.declared.activation.Places.{Places}
use Rattle.frame_engine.specs.Starts.{alloca_starts, global_starts}
use Rattle.schedule_workers.specs.declared.run.Run.{Run}
use Rattle.schedule_workers.specs.RunShown.{IsShown}

-- how many cells each global has
abbrev pub sizes_in : Program → List ℕ
sizes_in prog = map (λ (g : Global). g.cells) prog.globals

-- where a global of this number begins in a row
abbrev pub row_start : Program → ℕ → ℕ
row_start prog g = sum (take g (sizes_in prog))

-- the declared cells of memory stand in the row, each global after the one before it, and memory has no others
pub record IsRowOf (prog : Program) (memory : Memory) (row : List ℤ) : Type 0 where
  pub long : length row ≡ sum (sizes_in prog)
  pub within : (g i : ℕ) (z : ℤ) → memory (record { object = Shared g; index = i }) ≡ Some z →
      (global : Global) × (slice_get prog.globals g ≡ Some global) × (i < global.cells)
  pub held : (g i : ℕ) (z : ℤ) → memory (record { object = Shared g; index = i }) ≡ Some z →
      slice_get row (row_start prog g + i) ≡ Some z

-- the globals stand in a row, and each function's allocas behind its frame's home
pub record ArePlaces (prog : Program) (places : Places) : Type 0 where
  pub globals : places.globals ≡ global_starts prog.globals
  pub allocas : places.allocas ≡ map (λ (f : Function). alloca_starts f.allocas) prog.functions

-- the run shows the start with these arguments, from each memory that stands in the row
abbrev pub Begins : Program → List ℤ → List ℤ → Run → Type 0
Begins prog arguments row k =
    (places : Places) (memory : Memory) → ArePlaces prog places → IsRowOf prog memory row →
    IsShown prog places (running.start prog arguments memory) k

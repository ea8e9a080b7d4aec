-- What a stage stands for: a machine of the definitions, from which each schedule goes well.
use Rattle.std.specs.Prelude.{◌≡◌, ℕ, ◌≤◌, ◌<◌, List, length, map, Option, Some, None, IsSome, option_and_then}
use Rattle.std.specs.Prelude.{slice_get, ℤ}
use Rattle.semantics.specs.Cells.{Object, Shared, Local, Memory}
use Rattle.semantics.specs.Events.{Machine, Event, start}
use Rattle.semantics.specs.Replay.{replay}
use Rattle.program.specs.declared.function.Global.{Global}
use Rattle.program.specs.declared.function.Program.{Program}
use Rattle.serial_machine.specs.store.Cells.{NamedCells, cell_at}
use Rattle.serial_machine.specs.store.Named.{number_of}
use Rattle.serial_machine.specs.store.Rows.{sizes_of}
use Rattle.schedule_core.specs.laws_workers.strands.StrandsPromise.{StaysSafeAsStrands}
use Rattle.schedule_workers.specs.Going.{RunsSafely}
use Rattle.schedule_workers.specs.RunShown.{IsShown}
use Rattle.schedule_core.specs.declared.stage.Stage.{Stage}

-- ---- parts of a stage

abbrev pub program_of : Stage → Program
program_of stage = stage.verified.now

abbrev pub workers_of : Stage → ℕ
workers_of stage = length stage.run.hands.items

-- ---- globals

-- the names of the globals, in their order
abbrev pub names_of : List NamedCells → List (List ℕ)
names_of globals = map (λ (g : NamedCells). g.name) globals

abbrev pub given_in : List NamedCells → Object → ℕ → Option ℤ
given_in globals (Shared g) i = cell_at globals g i
given_in globals (Local owner n) i = None

-- the memory of a run that begins with these globals
abbrev pub given : List NamedCells → Memory
given globals x = given_in globals x.object x.index

-- each declared cell of a global holds a number
abbrev pub AreFull : Program → Memory → Type 0
AreFull prog memory = (g i : ℕ) (global : Global) → slice_get prog.globals g ≡ Some global → i < global.cells →
    IsSome (memory (record { object = Shared g; index = i }))

-- what the machine's memory holds of a global, by its name
abbrev pub global_named : Machine → List NamedCells → List ℕ → ℕ → Option ℤ
global_named m globals name i = option_and_then (λ g. m.core.memory (record { object = Shared g; index = i }))
    (number_of globals name)

-- these globals, of the same names and sizes, hold what the machine's memory does
pub record HoldsGlobals (m : Machine) (before after : List NamedCells) : Type 0 where
  pub names : names_of after ≡ names_of before
  pub sizes : sizes_of after ≡ sizes_of before
  pub cells : (g i : ℕ) → cell_at after g i ≡ m.core.memory (record { object = Shared g; index = i })

-- ---- states

-- a machine that a schedule leads to
pub record IsReached (prog : Program) (workers : ℕ) (m : Machine) : Type 0 where
  pub arguments : List ℤ
  pub memory : Memory
  pub events : List Event
  pub after : replay prog workers events (start prog arguments memory) ≡ m

-- wherever events lead from this machine, workers can go on, their frames may go on as strands, and the globals' cells
-- hold numbers
pub record GoesWell (prog : Program) (workers : ℕ) (m : Machine) : Type 0 where
  pub safe : RunsSafely prog workers m
  pub strands : (events : List Event) → StaysSafeAsStrands prog (replay prog workers events m)
  pub full : (events : List Event) → AreFull prog (replay prog workers events m).core.memory

-- the stage stands as this machine
pub record IsState (stage : Stage) (m : Machine) : Type 0 where
  pub shown : IsShown (program_of stage) stage.places m stage.run
  pub manned : 1 ≤ workers_of stage
  pub reached : IsReached (program_of stage) (workers_of stage) m
  pub well : GoesWell (program_of stage) (workers_of stage) m

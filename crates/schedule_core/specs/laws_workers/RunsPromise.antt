-- A run that shows a state to which a schedule leads stands safely, shows such a state again after each event, and
-- keeps the schedule theorem.
use Rattle.std.specs.Prelude.{◌≡◌, ◌↔◌, ℕ, ◌<◌, ◌≤◌, List, [], ◌∷◌, ◌++◌, length, Some, None, IsSome, Bool, ℤ, pos}
use Rattle.std.specs.Prelude.{◌+ℤ◌, slice_get}
use Rattle.syntax.specs.declared.operator.Width.TheVariants.{Bits64}
use Rattle.semantics.specs.Cells.{Shared, Memory}
use Rattle.semantics.specs.Arithmetic.{wrapped}
use Rattle.semantics.specs.Frames.{global_cells}
use Rattle.semantics.specs.SerialMeaning.{Gave, Outcome, IsSerialMeaning}
use Rattle.semantics.specs.Events.{Machine, Event, start}
use Rattle.semantics.specs.Replay.{replay}
use Rattle.program.specs.declared.function.Program.{Program}
use Rattle.serial_machine.specs.laws_conditions.theorem.Schedules.{KeepsSchedule}
use Rattle.cactus.specs.ByPath.{named}
use Rattle.schedule_workers.specs.frame_engine.Flat.{cell_in}
use Rattle.schedule_workers.specs.frame_engine.declared.activation.Places.{Places}
use Rattle.serial_machine.specs.laws_schedule.Promise.{AreTaken, HasGlobals}
use Rattle.serial_machine.specs.verifier.Accepted.{IsAccepted}
use Rattle.serial_machine.specs.verifier.Budgets.{budget_of, IsDepthOf}
use Rattle.schedule_workers.specs.declared.run.Run.{Run}
use Rattle.schedule_workers.specs.Going.{Becomes, RunsSafely, StandsSafely}
use Rattle.schedule_workers.specs.Layouts.{number_in}
use Rattle.schedule_workers.specs.RunShown.{IsShown}

-- ---- where a schedule leads

-- the run shows the state to which the events lead, from arguments that `main` takes and globals that have values
pub record IsScheduled (program : Program) (places : Places) (arguments : List ℤ) (memory : Memory)
    (events : List Event) (k : Run) : Type 0 where
  pub taken : AreTaken program arguments
  pub globals : HasGlobals program memory
  pub manned : 1 ≤ length k.hands.items
  pub shown : IsShown program places (replay program (length k.hands.items) events (start program arguments memory)) k

-- so it stands safely: what its workers do next needs no test
abbrev pub RunsStandSafely : Type 0
RunsStandSafely =
    (program : Program) → IsAccepted program →
    (places : Places) (arguments : List ℤ) (memory : Memory) (events : List Event) (k : Run) →
    IsScheduled program places arguments memory events k → StandsSafely program places k

-- the new run is the old one after this event, or the event was not enabled
abbrev pub DoesEvent : Program → Places → Run → Run → Event → Bool → Type 0
DoesEvent program places old new e done =
    (m : Machine) → IsShown program places m old → RunsSafely program (length old.hands.items) m →
    Becomes program places (length old.hands.items) e m new done

-- either way it shows the state to which one event more leads
abbrev pub RunsStayScheduled : Type 0
RunsStayScheduled =
    (program : Program) → IsAccepted program →
    (places : Places) (arguments : List ℤ) (memory : Memory) (events : List Event) (old new : Run) →
    length new.hands.items ≡ length old.hands.items → (e : Event) (done : Bool) →
    DoesEvent program places old new e done →
    IsScheduled program places arguments memory events old →
    IsScheduled program places arguments memory (events ++ e ∷ []) new

-- ---- the globals

-- where a global's cell stands in the row
abbrev pub global_at : Places → ℕ → ℕ → ℤ
global_at places g i = wrapped Bits64 (number_in places.globals g +ℤ pos i)

-- each cell of the globals has a value, and that stands in the row
abbrev pub HoldsGlobals : Program → Places → Memory → Run → Type 0
HoldsGlobals program places memory k =
    (g i : ℕ) → i < global_cells (slice_get program.globals g) →
    (z : ℤ) × (memory (record { object = Shared g; index = i }) ≡ Some z) ×
    (cell_in k.cells.cells.items (global_at places g i) ≡ Some z)

abbrev pub RunsHoldGlobals : Type 0
RunsHoldGlobals =
    (program : Program) → IsAccepted program →
    (places : Places) (arguments : List ℤ) (memory : Memory) (events : List Event) (k : Run) →
    IsScheduled program places arguments memory events k →
    HoldsGlobals program places
    (replay program (length k.hands.items) events (start program arguments memory)).core.memory k

-- ---- the schedule theorem

-- the root has returned
abbrev pub HasEnded : Run → Type 0
HasEnded k = named k.cactus [] ≡ None

-- the run has the serial run's result, count, depth and globals
pub record EndsAs (places : Places) (serial : Outcome) (k : Run) : Type 0 where
  pub result : serial.ending ≡ Gave k.result
  pub count : k.instructions ≡ serial.count
  pub depth : k.peak ≡ serial.depth
  pub globals : (g i : ℕ) (z : ℤ) → serial.memory (record { object = Shared g; index = i }) ≡ Some z →
      cell_in k.cells.cells.items (global_at places g i) ≡ Some z

-- The schedule theorem of a run that shows this machine: what it says of the machine, and of the run's own numbers.
pub record KeepsItsSchedule (program : Program) (places : Places) (arguments : List ℤ) (memory : Memory) (m : Machine)
    (k : Run) : Type 0 where
  pub serial : Outcome
  pub is_serial : IsSerialMeaning program arguments memory serial
  pub within_budget : serial.count ≤ budget_of program
  pub within_depth : (depth : ℕ) → IsDepthOf program depth → serial.depth ≤ depth
  pub schedule : KeepsSchedule program (length k.hands.items) serial m
  pub count : k.instructions ≤ serial.count
  -- a result is there just where the root has returned
  pub ended : IsSome k.result ↔ HasEnded k
  pub ends : HasEnded k → EndsAs places serial k

abbrev pub RunsKeepTheirSchedules : Type 0
RunsKeepTheirSchedules =
    (program : Program) → IsAccepted program →
    (places : Places) (arguments : List ℤ) (memory : Memory) (events : List Event) (k : Run) →
    IsScheduled program places arguments memory events k →
    KeepsItsSchedule program places arguments memory
    (replay program (length k.hands.items) events (start program arguments memory)) k

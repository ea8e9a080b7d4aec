-- What events do to a stage, one and many.
use Rattle.std.specs.Prelude.{◌≡◌, ⊤, ℕ, ◌≤◌, ◌<◌, List, [], ◌∷◌, ◌++◌, length, reverse, map, sum, Bool, true, false}
use Rattle.std.specs.Prelude.{Some, None, IsSome, ℤ}
use Rattle.semantics.specs.Paths.{Path as RunningPath}
use Rattle.semantics.specs.Frames.{Frame}
use Rattle.semantics.specs.Events as running
use Rattle.semantics.specs.Replay.{or_unchanged, replay}
use Rattle.semantics.specs.SerialMeaning.{Outcome, IsSerialMeaning}
use Rattle.serial_machine.specs.laws_conditions.theorem.Schedules.{KeepsSchedule}
use Rattle.serial_machine.specs.verifier.Accepted.{IsAccepted}
use Rattle.serial_machine.specs.verifier.Budgets.{budget_of, IsDepthOf}
use Rattle.program.specs.declared.function.Program.{Program}
use Rattle.serial_machine.specs.store.Requirements.{unmet_in}
use Rattle.serial_machine.specs.store.Cells.{NamedCells}
use Rattle.serial_machine.specs.store.Rows.{sizes_of}
use Rattle.schedule_workers.specs.Events.{GrowsAtStep}
use Rattle.schedule_workers.specs.Follows.{AreGiven, KeepsUses}
use Rattle.schedule_workers.specs.Stalls.{StallsAgree, last_blocks, no_blocks}
use Rattle.frame_engine.specs.Fits.{HasMoves}
use Rattle.schedule_workers.specs.Starts.{ArePlaces}
use Rattle.schedule_core.specs.Spots.{KeepsSpots}
use Rattle.schedule_core.specs.Lines.{line_after, line_or_zero}
use Rattle.serial_machine.specs.store.Made.{IsMadeFor}
use Rattle.schedule_core.specs.Stages.{given, program_of, workers_of, IsState}
use Rattle.frame.specs.declared.event.Event.{Event}
use Rattle.frame.specs.declared.event.Event.TheVariants.{Step, Steal}
use Rattle.schedule_core.specs.declared.stage.Stage.{Stage}
use Rattle.schedule_core.specs.declared.task.TaskView.{TaskView}

abbrev pub event_of : Event → running.Event
event_of (Step worker) = running.Step worker
event_of (Steal worker path) = running.Steal worker (reverse path.numbers)

-- ---- one event

-- the event is done just where the definitions enable it, and then the stage stands as they say
abbrev pub Becomes : running.Event → running.Machine → Stage → Stage → Bool → Type 0
Becomes e m old new true = (next : running.Machine) ×
    (running.event (program_of old) (workers_of old) e m ≡ Some next) × IsState new next
Becomes e m old new false = running.event (program_of old) (workers_of old) e m ≡ None

-- whatever machine the stage stands as
abbrev pub Happens : Stage → Stage → running.Event → Bool → Type 0
Happens old new e done = (m : running.Machine) → IsState old m → Becomes e m old new done

-- the event is a step that makes a frame: a detach or a call
abbrev pub GrowsOnly : Program → running.Machine → Event → Type 0
GrowsOnly prog m (Step worker) = GrowsAtStep prog m worker
GrowsOnly prog m (Steal worker path) = ⊥

-- ---- many

-- each event is enabled where it stands
abbrev pub AreEnabled : Program → ℕ → List running.Event → running.Machine → Type 0
AreEnabled prog workers [] m = ⊤
AreEnabled prog workers (e ∷ events) m = IsSome (running.event prog workers e m) ×
    AreEnabled prog workers events (or_unchanged (running.event prog workers e m) m)

-- the definitions' state before the first event
abbrev pub first_state : Program → List ℤ → List NamedCells → running.Machine
first_state prog arguments globals = running.start prog arguments (given globals)

-- and after these events
abbrev pub state_after : Program → List ℤ → List NamedCells → ℕ → List Event → running.Machine
state_after prog arguments globals workers events =
    replay prog workers (map event_of events) (first_state prog arguments globals)

-- the stage is the definitions' replay of the events from the start
pub record Replays (prog : Program) (arguments : List ℤ) (globals : List NamedCells) (workers : ℕ) (events : List Event)
    (stage : Stage) : Type 0 where
  pub program : program_of stage ≡ prog
  pub as_many : workers_of stage ≡ workers
  pub globals_are : stage.memory ≡ globals
  pub state : IsState stage (state_after prog arguments globals workers events)
  pub stalls : StallsAgree (last_blocks prog workers (map event_of events) (first_state prog arguments globals)
      no_blocks) stage.run.cactus

-- whatever events lead to the one stage, they lead to the other with this one more
abbrev pub ReplaysOneMore : Stage → Stage → Event → Type 0
ReplaysOneMore old new event = (prog : Program) (arguments : List ℤ) (globals : List NamedCells) (workers : ℕ)
    (events : List Event) → Replays prog arguments globals workers events old →
    Replays prog arguments globals workers (events ++ event ∷ []) new

-- and with these
abbrev pub ReplaysMore : Stage → Stage → List Event → Type 0
ReplaysMore old new more =
    (prog : Program) (arguments : List ℤ) (globals : List NamedCells) (workers : ℕ) (events : List Event) →
    Replays prog arguments globals workers events old → Replays prog arguments globals workers (events ++ more) new

-- whatever events lead to the one stage lead to the other
abbrev pub ReplaysTheSame : Stage → Stage → Type 0
ReplaysTheSame stage other =
    (prog : Program) (arguments : List ℤ) (globals : List NamedCells) (workers : ℕ) (events : List Event) →
    Replays prog arguments globals workers events stage → Replays prog arguments globals workers events other

-- nothing has changed that is seen of the stage: whatever machine it stood as it stands as, whatever events led to it
-- lead to it, and frames keep their uses of slots
pub record LeavesAsBefore (old new : Stage) : Type 0 where
  pub state : (m : running.Machine) → IsState old m → IsState new m
  pub replays : ReplaysTheSame old new
  pub uses : KeepsUses old.run.cactus new.run.cactus
  pub globals : new.memory ≡ old.memory

-- another stage stands as what this one stands as, what led to this one leads to it, and frames stand in the same uses
-- of slots
pub record StandsAsWell (stage other : Stage) : Type 0 where
  pub state : (m : running.Machine) → IsState stage m → IsState other m
  pub replays : ReplaysTheSame stage other
  pub spots : KeepsSpots stage.run.cactus other.run.cactus
  pub globals : other.memory ≡ stage.memory

-- ---- what a machine keeps

-- of a module that the verifier took, a schedule leads here from arguments that `main` takes and memory that was made
-- for the module
pub record IsMachine (stage : Stage) : Type 0 where
  pub accepted : IsAccepted (program_of stage)
  pub moves : HasMoves (program_of stage) (length stage.run.moves.items)
  pub places : ArePlaces (program_of stage) stage.places
  pub made : IsMadeFor (program_of stage) stage.memory
  pub small : sum (sizes_of stage.memory) < 9223372036854775808
  pub given : AreGiven stage.run.cactus
  pub arguments : List ℤ
  pub taken : unmet_in (program_of stage) arguments ≡ None
  pub events : List Event
  pub replays : Replays (program_of stage) arguments stage.memory (workers_of stage) events stage

-- no frame stands deeper than the deepest of the serial run
abbrev pub StaysLow : Outcome → running.Machine → Type 0
StaysLow serial m = (p : RunningPath) (f : Frame) → m.core.frames p ≡ Some f → length p < serial.depth

-- The schedule theorem of the definitions' state after these events: no step has trapped; the instructions are no more
-- than serially, and within the budget; no frame is deeper than serially, and within the depth; living frames are at
-- most the workers times the serial depth; and once it has ended, its memory, result, count and depth are those of the
-- serial run.
pub record KeepsItsSchedule (prog : Program) (arguments : List ℤ) (globals : List NamedCells) (workers : ℕ)
    (events : List Event) : Type 0 where
  pub serial : Outcome
  pub is_serial : IsSerialMeaning prog arguments (given globals) serial
  pub within_budget : serial.count ≤ budget_of prog
  pub within_depth : (depth : ℕ) → IsDepthOf prog depth → serial.depth ≤ depth
  pub schedule : KeepsSchedule prog workers serial (state_after prog arguments globals workers events)
  pub low : StaysLow serial (state_after prog arguments globals workers events)
  -- and so after whatever events follow these
  pub onwards : (more : List Event) →
      KeepsSchedule prog workers serial (state_after prog arguments globals workers (events ++ more))
  pub low_onwards : (more : List Event) → StaysLow serial (state_after prog arguments globals workers (events ++ more))

-- whatever arguments that `main` takes, memory that was made for the module, and events led to the stage: the theorem
-- of them
abbrev pub KeepsSchedules : Stage → Type 0
KeepsSchedules stage = (prog : Program) (arguments : List ℤ) (globals : List NamedCells) (workers : ℕ)
    (events : List Event) → unmet_in prog arguments ≡ None → IsMadeFor prog globals →
    Replays prog arguments globals workers events stage → KeepsItsSchedule prog arguments globals workers events

-- ---- lines

-- the view has the line of its task of this path, after these events
abbrev pub HasLineAfter : Program → List ℤ → List NamedCells → ℕ → List Event → RunningPath → TaskView → Type 0
HasLineAfter prog arguments globals workers events t view =
    view.line ≡ line_or_zero (line_after prog workers (map event_of events) (first_state prog arguments globals) t)

-- whatever events lead to the stage, the view has the line of its task after them
abbrev pub HasLine : Stage → RunningPath → TaskView → Type 0
HasLine stage t view =
    (prog : Program) (arguments : List ℤ) (globals : List NamedCells) (workers : ℕ) (events : List Event) →
    Replays prog arguments globals workers events stage → HasLineAfter prog arguments globals workers events t view

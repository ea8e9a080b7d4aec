-- Tasks part the living frames. A task is a detached child's frame, or the root, with the frames called on top of it,
-- and is named by its lowest frame.
use Rattle.std.specs.Prelude.{◌≡◌, ℕ, suc, ◌≤◌, List, ◌∷◌, Some, None, true, ℤ}
use Rattle.semantics.specs.Paths.{Path}
use Rattle.semantics.specs.Below.{Under}
use Rattle.semantics.specs.Cells.{Memory}
use Rattle.semantics.specs.Frames.{Body, Frame}
use Rattle.semantics.specs.State.{State}
use Rattle.semantics.specs.Events.{Machine, Event, is_child, is_task, top_of, Status, Ready, status_of, start}
use Rattle.semantics.specs.Replay.{replay}
use Rattle.program.specs.declared.function.Program.{Program}

-- the frame at a path is the task's lowest one, or was called by a frame of the task
pub data OnTask (s : State) (t : Path) : Path → Type 0 where
  is_lowest : is_task t (s.frames t) ≡ true → OnTask s t t
  is_called : (k : ℕ) {p : Path} (f : Frame) → OnTask s t p → s.frames (k ∷ p) ≡ Some f → f.role ≡ Body →
      OnTask s t (k ∷ p)

-- the last child that the frame at a path made was detached, and lives
pub record NewestChildLives (s : State) (p : Path) : Type 0 where
  pub frame : Frame
  pub number : ℕ
  pub child : Frame
  pub here : s.frames p ≡ Some frame
  pub newest : frame.made ≡ suc number
  pub lives : s.frames (number ∷ p) ≡ Some child
  pub detached : is_child child.role ≡ true

pub record PartIntoTasks (workers : ℕ) (m : Machine) : Type 0 where
  -- each living frame is on just one task
  pub some_task : (p : Path) (f : Frame) → m.core.frames p ≡ Some f → (t : Path) × OnTask m.core t p
  pub one_task : (p t u : Path) → OnTask m.core t p → OnTask m.core u p → t ≡ u
  -- all frames of a task are on the way down to its top frame, which is one of them
  pub top : (t p : Path) → OnTask m.core t p → OnTask m.core t (top_of m.core t) × Under p (top_of m.core t)
  -- until a step traps each task runs, or is ready or stalled
  pub status : m.trapped ≡ None → (t : Path) → is_task t (m.core.frames t) ≡ true → (x : Status) ×
      (status_of workers m t ≡ Some x)
  -- a task that is ready may go on beside its top frame's newest child
  pub ready : m.trapped ≡ None → (t : Path) → status_of workers m t ≡ Some Ready →
      NewestChildLives m.core (top_of m.core t)

abbrev pub FramesOnTasks : Type 0
FramesOnTasks = (prog : Program) (arguments : List ℤ) (memory : Memory) (workers : ℕ) → 1 ≤ workers →
    (events : List Event) →
    PartIntoTasks workers (replay prog workers events (start prog arguments memory))

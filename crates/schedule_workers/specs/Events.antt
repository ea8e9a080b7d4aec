-- What an event of a run comes to.
use Rattle.std.specs.Prelude.{◌≡◌, ⊤, ℕ, Bool, length, Some}
use Rattle.semantics.specs.Paths.{Path}
use Rattle.semantics.specs.Frames.{Frame}
use Rattle.semantics.specs.Effect.{Action, Detach, Call, action_of}
use Rattle.semantics.specs.Events.{Machine, Event}
use Rattle.program.specs.declared.function.Program.{Program}
use Rattle.frame_engine.specs.declared.activation.Places.{Places}
use Rattle.schedule_workers.specs.declared.run.Run.{Run}
use Rattle.schedule_workers.specs.Going.{Becomes, RunsSafely}
use Rattle.schedule_workers.specs.RunShown.{IsShown}
use Rattle.schedule_workers.specs.Stalls.{NotesStalls}

-- whatever machine is shown, the event is done just where it is enabled, and then the machine after it is shown
abbrev pub DoesEvent : Program → Places → Run → Run → Event → Bool → Type 0
DoesEvent prog places old new e done =
    (m : Machine) → IsShown prog places m old → RunsSafely prog (length old.hands.items) m →
    Becomes prog places (length old.hands.items) e m new done

-- whatever machine is shown, frames that are stalled are so at their last instructions
abbrev pub LeavesStalls : Program → Places → Run → Run → Event → Bool → Type 0
LeavesStalls prog places old new e done =
    (m : Machine) → IsShown prog places m old → RunsSafely prog (length old.hands.items) m →
    NotesStalls e m old.cactus new.cactus done

-- a detach or a call
abbrev pub MakesFrame : Action → Type 0
MakesFrame (Detach r b c) = ⊤
MakesFrame (Call d g vs) = ⊤
MakesFrame other = ⊥

-- the worker runs a task, and what the task's top does next makes a frame
pub record GrowsAtStep (prog : Program) (m : Machine) (worker : ℕ) : Type 0 where
  pub path : Path
  pub hand : m.hands worker ≡ Some path
  pub frame : Frame
  pub stands : m.core.frames path ≡ Some frame
  pub makes : MakesFrame (action_of prog path frame m.core.memory)

-- whatever machine is shown
abbrev pub Grows : Program → Places → Run → ℕ → Type 0
Grows prog places old worker =
    (m : Machine) → IsShown prog places m old → RunsSafely prog (length old.hands.items) m → GrowsAtStep prog m worker

-- What a run comes to that takes over a frame strand.
use Rattle.std.specs.Prelude.{ℕ, suc, length, Option, Some}
use Rattle.semantics.specs.Paths.{Path}
use Rattle.semantics.specs.Cells.{Object}
use Rattle.semantics.specs.Frames as frames
use Rattle.semantics.specs.Events.{Machine}
use Rattle.semantics.specs.Replay.{replay}
use Rattle.program.specs.declared.function.Program.{Program}
use Rattle.std.specs.Prelude.{◌≡◌, ℤ}
use Rattle.laws_strands.specs.Law.{Happen, steps_by}
use Rattle.frame_engine.specs.declared.activation.Places.{Places}
use Rattle.frame_strand.specs.Alone.{StaysSafeAlone}
use Rattle.frame_strand.specs.declared.outside.FrameStrand.{FrameStrand}
use Rattle.frame_strand.specs.declared.standing.FrameStrandPause.{FrameStrandPause}
use Rattle.frame_strand.specs.declared.standing.FrameStrandPause.TheVariants.{Border}
use Rattle.schedule_workers.specs.declared.run.Run.{Run}
use Rattle.schedule_workers.specs.Going.{RunsSafely}
use Rattle.schedule_workers.specs.Layouts.{living}
use Rattle.schedule_workers.specs.RunShown.{IsShown}
use Rattle.schedule_workers.specs.Stalls.{Blocks, StallsAgree, last_blocks}

-- whatever a worker's frame does by itself is safe, with other numbers in the cells of living objects at each step
abbrev pub GoesAloneIn : Program → Machine → Type 0
GoesAloneIn prog m =
    (worker : ℕ) (p : Path) (f : frames.Frame) → m.hands worker ≡ Some p → m.core.frames p ≡ Some f →
    (at : Object → ℤ) →
    StaysSafeAlone prog (record { at = at; cells = living prog m.core }) p f

-- some machine is shown, from which each schedule is safe, and whose workers' frames may go on alone
pub record StandsAlone (prog : Program) (places : Places) (k : Run) : Type 0 where
  pub machine : Machine
  pub shown : IsShown prog places machine k
  pub safe : RunsSafely prog (length k.hands.items) machine
  pub alone : GoesAloneIn prog machine

-- its instructions, and the border's where it stands at one
abbrev pub steps_in : Option FrameStrandPause → ℕ → ℕ
steps_in (Some Border) done = suc done
steps_in other done = done

-- whatever machine is shown, so many steps of the worker happen, and the machine after them is shown
abbrev pub DoesSteps : Program → Places → Run → Run → ℕ → ℕ → Type 0
DoesSteps prog places old new worker steps =
    (m : Machine) → IsShown prog places m old → RunsSafely prog (length old.hands.items) m → GoesAloneIn prog m →
    (after : Machine) × Happen prog (length old.hands.items) (steps_by worker steps) m after ×
    IsShown prog places after new

-- the strand's steps are done
abbrev pub DoesFrameStrand : Program → Places → Run → Run → ℕ → FrameStrand → Type 0
DoesFrameStrand prog places old new worker x = DoesSteps prog places old new worker (steps_in x.pause x.course.done)

-- whatever machine is shown, the worker runs the same frame after the strand's instructions, before the border's
abbrev pub KeepsHand : Program → Places → Run → ℕ → FrameStrand → Type 0
KeepsHand prog places old worker x =
    (m : Machine) → IsShown prog places m old → RunsSafely prog (length old.hands.items) m → GoesAloneIn prog m →
    (replay prog (length old.hands.items) (steps_by worker x.course.done) m).hands worker ≡ m.hands worker

-- whatever machine is shown, frames that are stalled are so at their last instructions, after so many steps of the
-- worker
abbrev pub LeavesStallsBy : Program → Places → Run → Run → ℕ → ℕ → Type 0
LeavesStallsBy prog places old new worker steps =
    (m : Machine) → IsShown prog places m old → RunsSafely prog (length old.hands.items) m → GoesAloneIn prog m →
    (last : Blocks) → StallsAgree last old.cactus →
    StallsAgree (last_blocks prog (length old.hands.items) (steps_by worker steps) m last) new.cactus

-- What the views of single frames and cells show, in the definitions of running.
use Rattle.std.specs.Prelude.{◌≡◌, ℕ, ℤ, List, length, Contains, Option, Some, IsSome, slice_get}
use Rattle.std.specs.Int.{cast_signed, w64}
use Rattle.semantics.specs.Arithmetic.{cell_sum}
use Rattle.semantics.specs.Cells.{Cell, Local}
use Rattle.semantics.specs.Frames.{Frame}
use Rattle.semantics.specs.Events as running
use Rattle.semantics.specs.Replay.{CountsFrames}
use Rattle.frame.specs.declared.path.Path.{Path}
use Rattle.frame_engine.specs.Activation.{allocas_of}
use Rattle.frame_engine.specs.declared.activation.Places.{Places}
use Rattle.frame_engine.specs.declared.activation.Frame as machine
use Rattle.frame_engine.specs.Shows.{Layout, address}
use Rattle.schedule_workers.specs.Layouts.{layout_of}
use Rattle.schedule_workers.specs.RunShown.{ShowsNode}
use Rattle.schedule_core.specs.Stages.{program_of}
use Rattle.schedule_core.specs.Viewed.{place_in}
use Rattle.schedule_core.specs.declared.stage.Stage.{Stage}
use Rattle.schedule_core.specs.declared.frames.FrameView.{FrameView}

-- where the objects of the stage lie
abbrev pub layout_in : Stage → running.Machine → Layout
layout_in stage m = layout_of (program_of stage) stage.places stage.run.cactus m.core

-- the view is of the frame of this path: where it stands, and what its registers hold
pub record IsFrameAt (stage : Stage) (m : running.Machine) (path : Path) (view : FrameView) : Type 0 where
  pub named : view.path.now ≡ path
  pub frame : Frame
  pub stands : m.core.frames (place_in path) ≡ Some frame
  pub shown : ShowsNode (layout_in stage m) stage.places (place_in path) frame view.frame.now

-- the paths are those of the living frames, and as many as these, so none is listed twice
pub record AreLiving (m : running.Machine) (paths : List Path) : Type 0 where
  pub live : (path : Path) → Contains paths path → IsSome (m.core.frames (place_in path))
  pub listed : (path : Path) → IsSome (m.core.frames (place_in path)) → Contains paths path
  pub once : CountsFrames m.core (length paths)

-- the address is that of a cell of the frame's alloca: so far behind where the alloca begins
pub record IsAddressIn (places : Places) (frame : machine.Frame) (alloca index : ℕ) (at : ℤ) : Type 0 where
  pub start : ℤ
  pub there : slice_get (allocas_of places frame.function.0) alloca ≡ Some start
  pub is : at ≡ cell_sum (cell_sum frame.home start) (cast_signed w64 index)

-- it is what each cell at this address holds, where one does
abbrev pub IsHeldAt : Stage → running.Machine → ℤ → Option ℤ → Type 0
IsHeldAt stage m at word = (c : Cell) (z : ℤ) → address (layout_in stage m) c ≡ at → m.core.memory c ≡ Some z →
    word ≡ Some z

-- it is what the cell of an alloca of the path's frame holds, where that frame lives and the cell has a value
abbrev pub IsHeldBy : Stage → running.Machine → Path → ℕ → ℕ → Option ℤ → Type 0
IsHeldBy stage m path alloca index word = (f : Frame) (k z : ℤ) → m.core.frames (place_in path) ≡ Some f →
    slice_get (allocas_of stage.places f.function) alloca ≡ Some k →
    m.core.memory (record { object = Local f.home alloca; index = index }) ≡ Some z → word ≡ Some z

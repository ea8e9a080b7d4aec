-- Where a frame strand fits a run.
use Rattle.std.specs.Prelude.{◌≡◌, ℕ, ℤ, List, Some, slice_get}
use Rattle.cactus.specs.declared.node.Node.{Node}
use Rattle.cactus.specs.Frames.{node_at}
use Rattle.frame_engine.specs.Flat.{cell_in}
use Rattle.frame_strand.specs.Standing.{IsCopy}
use Rattle.frame_strand.specs.declared.cells.Read.{Read}
use Rattle.frame_strand.specs.declared.outside.FrameStrand.{FrameStrand}
use Rattle.schedule_workers.specs.declared.activation.Activation.{Activation}
use Rattle.schedule_workers.specs.declared.run.Run.{Run}
use Rattle.schedule_workers.specs.Scheduling.{hand_of}

-- each cell that was read holds what was read
abbrev pub HoldReads : List Read → List ℤ → Type 0
HoldReads reads row = (i : ℕ) (r : Read) → slice_get reads i ≡ Some r → cell_in row r.at ≡ Some r.value

-- the worker runs the loaded frame, word for word, at its path, and what was read is there
pub record FitsRun (k : Run) (worker : ℕ) (x : FrameStrand) (slot : ℕ) : Type 0 where
  pub node : Node Activation
  pub hand : hand_of k.hands.items worker ≡ Some slot
  pub stands : node_at k.cactus slot ≡ Some node
  pub path : node.path.numbers ≡ x.course.path.items
  pub frame : IsCopy x.course.loaded node.frame.frame
  pub reads : HoldReads x.course.cells.reads k.cells.cells.items

-- What a frame strand's frame and writes make of a run.
use Rattle.std.specs.Prelude.{◌≡◌, ℕ, ◌+◌, ℤ, List, Option, Some, None, length}
use Rattle.std.specs.Vec.{with_items}
use Rattle.semantics.specs.State.{sum_in}
use Rattle.frame.specs.declared.frame.Wait.TheVariants.{Nothing}
use Rattle.cactus.specs.declared.node.Node.{Node}
use Rattle.cactus.specs.Frames.{node_at}
use Rattle.cactus.specs.Lending.{with_frame}
use Rattle.frame_engine.specs.Flat.{cell_in}
use Rattle.frame_engine.specs.declared.activation.Frame.{Frame}
use Rattle.frame_strand.specs.Buffers.{change_in}
use Rattle.frame_strand.specs.declared.cells.Change.{Change}
use Rattle.frame_strand.specs.declared.cells.Change.TheVariants.{Stored, Delta}
use Rattle.frame_strand.specs.declared.cells.Written.{Written}
use Rattle.frame_strand.specs.declared.outside.FrameStrand.{FrameStrand}
use Rattle.schedule_workers.specs.declared.activation.Activation.{Activation}
use Rattle.schedule_workers.specs.declared.run.Run.{Run}

abbrev pub put_change : Option Change → Option ℤ → Option ℤ
put_change None value = value
put_change (Some (Stored z)) value = Some z
put_change (Some (Delta z)) value = sum_in z value

-- each cell holds what is kept of it, a delta added to what it held
pub record IsPutInto (writes : List Written) (old new : List ℤ) : Type 0 where
  pub long : length new ≡ length old
  pub cells : (a : ℤ) → cell_in new a ≡ put_change (change_in writes a) (cell_in old a)

-- the strand's frame, which waits for nothing, and its writes stand in the run, and its instructions are counted
pub record IsPut (old new : Run) (slot : ℕ) (x : FrameStrand) : Type 0 where
  pub node : Node Activation
  pub stood : node_at old.cactus slot ≡ Some node
  pub frame : Frame
  pub only : frame ≡ record node.frame.frame {
    place = x.course.present.place;
    registers = frame.registers;
    waits =
        Nothing;
  }
  pub registers : frame.registers.items ≡ x.course.present.registers.items
  pub room : frame.registers ≡ with_items node.frame.frame.registers x.course.present.registers.items
  pub cells : IsPutInto x.course.cells.writes old.cells.cells.items new.cells.cells.items
  pub is : new ≡ record old {
    cactus = with_frame old.cactus slot (record node.frame { frame = frame });
    cells = new.cells;
    instructions = old.instructions + x.course.done;
  }

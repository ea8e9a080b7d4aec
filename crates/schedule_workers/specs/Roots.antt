-- How a run's root begins.
use Rattle.std.specs.Prelude.{◌≡◌, ◌≢◌, ℕ, List, length, Some, None, ℤ, pos, slice_get}
use Rattle.program.specs.declared.identifier.FunctionId.{FunctionId}
use Rattle.frame.specs.declared.frame.Role.TheVariants.{Body}
use Rattle.frame.specs.declared.frame.Wait.TheVariants.{Nothing}
use Rattle.frame_engine.specs.declared.activation.Frame.{Frame}
use Rattle.schedule_workers.specs.declared.activation.Activation.{Activation}
use Rattle.schedule_workers.specs.declared.run.Block.{Block}
use Rattle.schedule_workers.specs.Rooms.{empty_at}
use Rattle.schedule_workers.specs.Scheduling.{counted_in}

-- of a function at its entry, with its allocas from here on
abbrev pub first_frame : FunctionId → ℕ → Frame → Frame
first_frame main start f =
    record f {
      function = main;
      place = record { block = record { 0 = 0 }; index = 0 };
      home = pos start;
      made = 0;
      waits = Nothing;
      role = Body;
      depth = 0;
    }

-- worker 0 begins the function, which has so many registers, with these arguments
pub record IsRoot (main : FunctionId) (arguments : List ℤ) (count start : ℕ) (a : Activation) : Type 0 where
  pub is : a ≡ record {
    frame = first_frame main start a.frame;
    counts = a.counts;
    callee = None;
    runner = Some 0;
    stalled_in = None;
  }
  pub none : (region : ℕ) → counted_in a region ≡ 0
  pub as_many : length a.counts.items ≡ count
  pub registers : length a.frame.registers.items ≡ count
  pub held : (x : ℕ) (z : ℤ) → slice_get arguments x ≡ Some z → slice_get a.frame.registers.items x ≡ Some z

-- the slot has the block, and every other block is empty
pub record HasBlock (blocks : List Block) (slot : ℕ) (block : Block) : Type 0 where
  pub own : slice_get blocks slot ≡ Some block
  pub others : (other : ℕ) (b : Block) → slice_get blocks other ≡ Some b → other ≢ slot → b ≡ empty_at block.start

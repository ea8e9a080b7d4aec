-- What a commit writes, once the frames stand in the cactus.
use Rattle.std.specs.Prelude.{◌≡◌, ℕ, ◌+◌, ◌<◌, max, List, [], ◌∷◌, length, Option, Some, None, slice_get}
use Rattle.std.specs.Vec.{with_item}
use Rattle.linear.specs.declared.form.RegisterId.{RegisterId}
use Rattle.program.specs.declared.identifier.BlockId.{BlockId}
use Rattle.frame.specs.declared.frame.Role.TheVariants as role
use Rattle.frame.specs.declared.frame.Wait.{Wait}
use Rattle.frame.specs.declared.frame.Wait.TheVariants as wait
use Rattle.cactus.specs.Frames.{Frames, frame_at}
use Rattle.cactus.specs.Lending.{with_frame}
use Rattle.frame_engine.specs.declared.activation.Frame.{Frame}
use Rattle.schedule_workers.specs.declared.activation.Activation.{Activation}
use Rattle.schedule_workers.specs.declared.run.Run.{Run}
use Rattle.schedule_workers.specs.Scheduling.{counted_in}
use Rattle.strand.specs.Putting.{ArePutInto}
use Rattle.strand.specs.declared.strand.Strand.{Strand}
use Rattle.schedule_commit.specs.strands.Linking.{counted_above, frames_of}

-- ---- the base

-- no worker runs a frame on which another stands
abbrev pub runner_under : Option Frame → Option ℕ → Option ℕ
runner_under None runner = runner
runner_under (Some f) runner = None

-- the base went on to the strand's lowest frame, and counts the one above that
pub record IsBase (x : Strand) (old new : Activation) : Type 0 where
  pub frame : Frame
  pub there : slice_get (frames_of x) 0 ≡ Some frame
  pub only : new ≡ record old {
    frame = new.frame;
    counts = new.counts;
    runner =
        runner_under (slice_get (frames_of x) 1) old.runner;
  }
  pub went : new.frame ≡ record old.frame {
    place = frame.place;
    registers = new.frame.registers;
    made = frame.made;
    waits = frame.waits;
  }
  pub registers : new.frame.registers.items ≡ frame.registers.items
  pub counts : (region : ℕ) →
      counted_in new region ≡ counted_above (slice_get (frames_of x) 1) region + counted_in old region
  pub as_many : length new.counts.items ≡ length old.counts.items

-- the base has a count for the region of the frame above it
pub record MayCount (x : Strand) (a : Activation) : Type 0 where
  pub region : (f : Frame) (r : RegisterId) (n : BlockId) → slice_get (frames_of x) 1 ≡ Some f →
      f.role ≡ role.Child r n → r.0 < length a.counts.items
  pub room : (region : ℕ) → counted_in a region + 1 < 18446744073709551616

-- ---- the callees

abbrev pub by_wait : Wait → ℕ → Activation → Activation
by_wait wait.Nothing child a = a
by_wait (wait.Region region) child a = a
by_wait (wait.Call number register) child a = record a { callee = Some child }

-- the frame in the child's slot stands on it
abbrev pub under : ℕ → Activation → Activation
under child a = by_wait a.frame.waits child a

abbrev pub under_at : Frames Activation → ℕ → ℕ → Option Activation → Frames Activation
under_at frames slot child None = frames
under_at frames slot child (Some a) = with_frame frames slot (under child a)

abbrev pub waiting_at : Frames Activation → ℕ → ℕ → Frames Activation
waiting_at frames slot child = under_at frames slot child (frame_at frames slot)

-- each of the frames in the slots stands on the one before it
abbrev pub linked_up : Frames Activation → ℕ → List ℕ → Frames Activation
linked_up frames slot [] = frames
linked_up frames slot (child ∷ slots) = linked_up (waiting_at frames slot child) child slots

abbrev pub last_of : ℕ → List ℕ → ℕ
last_of slot [] = slot
last_of slot (child ∷ slots) = last_of child slots

-- ---- all of it

pub record IsCommitted (old new : Run) (worker slot : ℕ) (x : Strand) (slots : List ℕ) : Type 0 where
  pub was : Activation
  pub stood : frame_at old.cactus slot ≡ Some was
  pub base : Activation
  pub is_base : IsBase x was base
  pub cactus : new.cactus ≡ linked_up (with_frame old.cactus slot base) slot slots
  pub cells : ArePutInto x.cells x.end old.cells.cells.items new.cells.cells.items
  pub only : new ≡ record old {
    cactus = new.cactus;
    cells = new.cells;
    hands = with_item old.hands worker (Some (last_of slot slots));
    instructions = old.instructions + x.done;
    peak = max old.peak x.deepest;
  }

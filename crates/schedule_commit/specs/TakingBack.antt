-- A frame strand that was put into a run, and is to be taken back.
use Rattle.std.specs.Prelude.{◌≡◌, ℕ, ℤ, List, None, Some, length, slice_get}
use Rattle.frame_engine.specs.Flat.{cell_in}
use Rattle.frame_strand.specs.Buffers.{change_in}
use Rattle.frame_strand.specs.Standing.{IsCopy}
use Rattle.frame_strand.specs.declared.cells.Written.{Written}
use Rattle.frame_strand.specs.declared.outside.FrameStrand.{FrameStrand}
use Rattle.schedule_workers.specs.Rooms.{IsRoomier}
use Rattle.schedule_workers.specs.declared.run.Run.{Run}
use Rattle.schedule_commit.specs.Putting.{IsPut}

-- the numbers are what those of the row's cells hold that were written, in their order
pub record AreNumbersOf (row : List ℤ) (writes : List Written) (numbers : List ℤ) : Type 0 where
  pub many : length numbers ≡ length writes
  pub are : (i : ℕ) (w : Written) → slice_get writes i ≡ Some w → cell_in row w.at ≡ slice_get numbers i

-- the cells that were written hold the numbers, and all others what they held
pub record IsRestored (writes : List Written) (numbers old new : List ℤ) : Type 0 where
  pub long : length new ≡ length old
  pub written : (i : ℕ) (w : Written) → slice_get writes i ≡ Some w → cell_in new w.at ≡ slice_get numbers i
  pub others : (a : ℤ) → change_in writes a ≡ None → cell_in new a ≡ cell_in old a

-- the strand was put into a run, whose cells held the numbers, and since then the run got more room at most
pub record WasPut (before late : Run) (slot : ℕ) (x : FrameStrand) (numbers : List ℤ) : Type 0 where
  pub between : Run
  pub put : IsPut before between slot x
  pub copy : IsCopy x.course.loaded put.node.frame.frame
  pub roomier : IsRoomier between late
  pub numbers_are : AreNumbersOf before.cells.cells.items x.course.cells.writes numbers

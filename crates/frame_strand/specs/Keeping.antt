-- What a strand's cells keep.
use Rattle.std.specs.Prelude.{◌≡◌, None, ℕ, ◌≤◌, List, map, Some, ℤ, slice_get, vec_capacity}
use Rattle.frame_strand.specs.Buffers.{Buffers, change_in, value_in}
use Rattle.frame_strand.specs.declared.cells.Change.TheVariants.{Delta}
use Rattle.frame_strand.specs.declared.cells.Read.{Read}
use Rattle.frame_strand.specs.declared.cells.Written.{Written}
use Rattle.frame_strand.specs.declared.cells.FrameStrandCells.TheInside.{Inside}

abbrev pub shown : Inside → Buffers
shown x = record { reads = x.reads.items; writes = x.writes.items }

-- no address stands twice
abbrev pub AreDifferent : List ℤ → Type 0
AreDifferent addresses = (i j : ℕ) (a : ℤ) → slice_get addresses i ≡ Some a → slice_get addresses j ≡ Some a → i ≡ j

pub record IsKept (x : Inside) : Type 0 where
  pub read_places : x.read_places ≡ map (λ (r : Read). r.at) x.reads.items
  pub write_places : x.write_places ≡ map (λ (w : Written). w.at) x.writes.items
  pub reads_differ : AreDifferent x.read_places
  pub writes_differ : AreDifferent x.write_places
  -- what is added to a cell that was read is added to what it held
  pub deltas : (a z : ℤ) → change_in x.writes.items a ≡ Some (Delta z) → value_in x.reads.items a ≡ None
  pub read_room : 256 ≤ vec_capacity x.reads
  pub write_room : 256 ≤ vec_capacity x.writes

-- What a strand knows of memory: what it read of each cell, and what it keeps for those that it wrote.
use Rattle.std.specs.Prelude.{Option, Some, None, cond, ℤ}
use Rattle.semantics.specs.Cells.{Cell, Memory, same_cell}
use Rattle.semantics.specs.Written.{or_zero}
use Rattle.semantics.specs.Arithmetic.{cell_sum}
use Rattle.semantics.specs.State.{sum_in}

pub data Write : Type 0 where
  -- the cell is to hold this, or nothing
  Stored : (value : Option ℤ) → Write
  -- this is to be added to whatever the cell holds (LLVM Language Reference, "atomicrmw")
  Delta : (z : ℤ) → Write

pub record Footprint : Type 0 where
  -- what a cell held, when it was first read
  pub reads : Cell → Option ℤ
  pub writes : Cell → Option Write

abbrev pub untouched : Footprint
untouched = record { reads = λ x. None; writes = λ x. None }

-- ---- the memory that it sees

-- what it wrote, else what it read; to know a cell with a delta it has to be read first
abbrev pub known : Option Write → Option ℤ → Option ℤ
known None read = read
known (Some (Stored value)) read = value
known (Some (Delta z)) read = None

abbrev pub held : Footprint → Cell → Option ℤ
held f x = known (f.writes x) (f.reads x)

-- A cell that is not held counts as 0 here: a load of it is not done, and an add asks no more than whether there is a
-- value.
abbrev pub memory_of : Footprint → Memory
memory_of f x = Some (or_zero (held f x))

-- ---- how it grows

-- a delta on what was read
abbrev pub settled : ℤ → Option Write → Option Write
settled v None = None
settled v (Some (Stored value)) = Some (Stored value)
settled v (Some (Delta z)) = Some (Stored (Some (cell_sum v z)))

-- the cell was read, and held this
abbrev pub with_read : Footprint → Cell → ℤ → Footprint
with_read f c v =
    record {
      reads = λ x. cond (same_cell c x) (Some v) (f.reads x);
      writes = λ x. cond (same_cell c x) (settled v (f.writes x)) (f.writes x);
    }

-- a store takes the place of what was kept, a delta too
abbrev pub stored : Option (Option ℤ) → Option Write → Option Write
stored None kept = kept
stored (Some value) kept = Some (Stored value)

-- what is kept of a cell after an add, by what was kept and what was read
abbrev pub raised : ℤ → Option Write → Option ℤ → Write
raised z None None = Delta z
raised z None (Some y) = Stored (Some (cell_sum y z))
raised z (Some (Stored value)) read = Stored (sum_in z value)
raised z (Some (Delta y)) read = Delta (cell_sum y z)

abbrev pub added_to : Option ℤ → Option Write → Option ℤ → Option Write
added_to None kept read = kept
added_to (Some z) kept read = Some (raised z kept read)

-- after these writes and these adds, as changes of the machine have them
abbrev pub with_writes : Footprint → (Cell → Option (Option ℤ)) → (Cell → Option ℤ) → Footprint
with_writes f writes adds = record f { writes = λ x. added_to (adds x) (stored (writes x) (f.writes x)) (f.reads x) }

-- ---- put into memory

abbrev pub put : Option Write → Option ℤ → Option ℤ
put None value = value
put (Some (Stored new)) value = new
put (Some (Delta z)) value = sum_in z value

-- a memory with what was written put into it
abbrev pub seen : Memory → Footprint → Memory
seen m f x = put (f.writes x) (m x)

-- What a frame strand knows of memory: the cells that it read, and what it keeps for those that it wrote.
use Rattle.std.specs.Prelude.{List, [], ◌∷◌, ◌++◌, Option, Some, None, cond, ℤ}
use Rattle.std.specs.Map.{lookup}
use Rattle.semantics.specs.Cells.{Cell, Memory, same_cell}
use Rattle.semantics.specs.Written.{or_zero}
use Rattle.semantics.specs.Arithmetic.{cell_sum}
use Rattle.semantics.specs.State.{sum_in}

pub data Write : Type 0 where
  -- the cell is to hold this
  Stored : (z : ℤ) → Write
  -- this is to be added to whatever the cell holds (LLVM Language Reference, "atomicrmw")
  Delta : (z : ℤ) → Write

pub record Footprint : Type 0 where
  -- what each held, when it was first read
  pub reads : List (Cell × ℤ)
  pub writes : List (Cell × Write)

abbrev pub untouched : Footprint
untouched = record { reads = []; writes = [] }

abbrev pub read_at : Footprint → Cell → Option ℤ
read_at f x = lookup (same_cell x) f.reads

abbrev pub write_at : Footprint → Cell → Option Write
write_at f x = lookup (same_cell x) f.writes

-- ---- the memory that a strand sees

-- what it wrote, else what it read; to know a cell with a delta it has to be read first
abbrev pub known : Option Write → Option ℤ → Option ℤ
known (Some (Stored z)) read = Some z
known (Some (Delta z)) read = None
known None read = read

abbrev pub held : Footprint → Cell → Option ℤ
held f x = known (write_at f x) (read_at f x)

-- A cell that is not held counts as 0 here: a load of it is not done, and an add asks no more than whether there is a
-- value.
abbrev pub memory_of : Footprint → Memory
memory_of f x = Some (or_zero (held f x))

-- ---- how it grows

abbrev pub with_write : List (Cell × Write) → Cell → Write → List (Cell × Write)
with_write [] c u = (c, u) ∷ []
with_write (e ∷ more) c u = cond (same_cell c e.0) ((e.0, u) ∷ more) (e ∷ with_write more c u)

-- a store takes the place of what was kept, a delta too
abbrev pub stored : List (Cell × Write) → Cell → Option (Option ℤ) → List (Cell × Write)
stored writes c None = writes
stored writes c (Some None) = writes
stored writes c (Some (Some z)) = with_write writes c (Stored z)

-- what is kept of a cell after an add, by what was kept and what was read
abbrev pub raised : ℤ → Option Write → Option ℤ → Write
raised z (Some (Stored y)) read = Stored (cell_sum y z)
raised z (Some (Delta y)) read = Delta (cell_sum y z)
raised z None (Some y) = Stored (cell_sum y z)
raised z None None = Delta z

abbrev pub added_to : Footprint → Cell → Option ℤ → List (Cell × Write)
added_to f c None = f.writes
added_to f c (Some z) = with_write f.writes c (raised z (write_at f c) (read_at f c))

-- a delta on what was read
abbrev pub settled : List (Cell × Write) → Cell → ℤ → Option Write → List (Cell × Write)
settled writes c v None = writes
settled writes c v (Some (Stored z)) = writes
settled writes c v (Some (Delta z)) = with_write writes c (Stored (cell_sum v z))

-- the cell was read, and held this
abbrev pub with_read : Footprint → Cell → ℤ → Footprint
with_read f c v = record { reads = f.reads ++ (c, v) ∷ []; writes = settled f.writes c v (write_at f c) }

-- ---- put into memory

abbrev pub put : Option Write → Option ℤ → Option ℤ
put None value = value
put (Some (Stored z)) value = Some z
put (Some (Delta z)) value = sum_in z value

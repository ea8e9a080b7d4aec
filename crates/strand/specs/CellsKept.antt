-- How a strand's cells show what one of the definitions knows of memory.
use Rattle.std.specs.Prelude.{◌≡◌, Option, Some, None, IsSome, ℤ}
use Rattle.std.specs.Option.{option_map}
use Rattle.semantics.specs.Cells.{Cell}
use Rattle.laws_strands.specs.stacks.Footprint.{Footprint, Write, put}
use Rattle.laws_strands.specs.stacks.Footprint as footprint
use Rattle.frame_engine.specs.Shows.{Layout, IsIn, address}
use Rattle.strand.specs.frame_strand.declared.cells.Change.{Change}
use Rattle.strand.specs.frame_strand.declared.cells.Change.TheVariants.{Stored, Delta}
use Rattle.strand_pages.specs.Logs.{Log}
use Rattle.strand_pages.specs.Tables.{log_of}
use Rattle.strand.specs.OwnCells.{own_cell}
use Rattle.strand.specs.declared.cells.StrandCells.{StrandCells}

abbrev pub write_of : Change → Write
write_of (Stored z) = footprint.Stored (Some z)
write_of (Delta z) = footprint.Delta z

-- the address is that of a living object's cell
abbrev pub IsLiving : Layout → ℤ → Type 0
IsLiving l a = (c : Cell) × IsIn l c × (a ≡ address l c)

-- Of each cell of an object of the machine the log has the same.
pub record ShowsLog (l : Layout) (f : Footprint) (b : Log) : Type 0 where
  pub reads : (c : Cell) → IsIn l c → f.reads c ≡ b.reads (address l c)
  pub writes : (c : Cell) → IsIn l c → f.writes c ≡ option_map write_of (b.writes (address l c))
  pub read_there : (a v : ℤ) → b.reads a ≡ Some v → IsLiving l a
  pub written_there : (a : ℤ) (u : Change) → b.writes a ≡ Some u → IsLiving l a
  -- what was read is at hand, and what is added to a cell that was read is added to that
  pub near : (a v : ℤ) → b.reads a ≡ Some v → b.near a ≡ Some v
  pub deltas : (a z : ℤ) → b.writes a ≡ Some (Delta z) → b.reads a ≡ None

-- The segment's cell holds what the strand's writes make of the number that it held when its frame began. A cell that
-- was read before it was written was read as that number: no machine tells otherwise, since in none of them it has a
-- value then.
pub record HoldsOwn (f : Footprint) (c : Cell) (first : ℤ) (now : Option ℤ) : Type 0 where
  pub read : (v : ℤ) → f.reads c ≡ Some v → Some first ≡ Some v
  pub is : now ≡ put (f.writes c) (Some first)
  pub there : IsSome now
  pub delta : (z : ℤ) → f.writes c ≡ Some (footprint.Delta z) → f.reads c ≡ None

-- In l lie the objects of the machine, in k also those of the strand's own frames, whose cells held these numbers
-- first.
pub record ShowsKept (l k : Layout) (first : Cell → ℤ) (f : Footprint) (x : StrandCells) : Type 0 where
  pub log : ShowsLog l f (log_of x.log)
  -- the frames' own cells are in the segment
  pub own : (c : Cell) → (IsIn l c → ⊥) → IsIn k c → HoldsOwn f c (first c) (own_cell x (address k c))
  -- what is kept of other cells, those of frames that are gone, leaves them without a value
  pub gone : (c : Cell) → (IsIn k c → ⊥) → put (f.writes c) (f.reads c) ≡ None

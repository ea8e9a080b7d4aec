-- How buffers by address show a footprint of the definitions.
use Rattle.std.specs.Prelude.{◌≡◌, map, ℤ}
use Rattle.std.specs.List.{All}
use Rattle.semantics.specs.Cells.{Cell}
use Rattle.laws_strands.specs.Footprint as frame_strands
use Rattle.laws_strands.specs.Footprint.{Footprint, with_write, raised, write_at, read_at}
use Rattle.frame_engine.specs.Shows.{Layout, IsIn, address}
use Rattle.frame_strand.specs.Buffers.{Buffers}
use Rattle.frame_strand.specs.declared.cells.Read.{Read}
use Rattle.frame_strand.specs.declared.cells.Written.{Written}
use Rattle.frame_strand.specs.declared.cells.Change.{Change}
use Rattle.frame_strand.specs.declared.cells.Change.TheVariants.{Stored, Delta}

abbrev pub change_of : frame_strands.Write → Change
change_of (frame_strands.Stored z) = Stored z
change_of (frame_strands.Delta z) = Delta z

abbrev pub read_of : Layout → Cell × ℤ → Read
read_of l r = record { at = address l r.0; value = r.1 }

abbrev pub written_of : Layout → Cell × frame_strands.Write → Written
written_of l w = record { at = address l w.0; change = change_of w.1 }

-- cells of living objects have addresses of their own
abbrev pub AreApart : Layout → Type 0
AreApart l = (c d : Cell) → IsIn l c → IsIn l d → address l c ≡ address l d → c ≡ d

-- the same cells in the same order, all of them of living objects
pub record ShowsFootprint (l : Layout) (f : Footprint) (b : Buffers) : Type 0 where
  pub reads : b.reads ≡ map (read_of l) f.reads
  pub writes : b.writes ≡ map (written_of l) f.writes
  pub reads_in : All (λ r. IsIn l r.0) f.reads
  pub writes_in : All (λ w. IsIn l w.0) f.writes

-- wherever the buffers show a footprint before, they show one afterwards to which this was done at the cell at the
-- address
abbrev pub Becomes : (Footprint → Cell → Footprint) → Buffers → ℤ → Buffers → Type 0
Becomes change b a after =
    (l : Layout) (f : Footprint) (c : Cell) → AreApart l → IsIn l c → a ≡ address l c → ShowsFootprint l f b →
    ShowsFootprint l (change f c) after

-- a store of the definitions, and an addition
abbrev pub with_store : ℤ → Footprint → Cell → Footprint
with_store z f c = record f { writes = with_write f.writes c (frame_strands.Stored z) }

abbrev pub with_add : ℤ → Footprint → Cell → Footprint
with_add z f c = record f { writes = with_write f.writes c (raised z (write_at f c) (read_at f c)) }

-- How a strand's cells are compared with a row of the board's cells, and put into one.
use Rattle.std.specs.Prelude.{◌≡◌, ◌≢◌, ◌≤◌, ◌<◌, ◌+◌, ℕ, ℤ, pos, List, length, slice_get}
use Rattle.frame_engine.specs.Flat.{cell_in}
use Rattle.strand_pages.specs.Known.{put_change}
use Rattle.strand_pages.specs.Tables.{log_of}
use Rattle.strand.specs.OwnCells.{own_cell}
use Rattle.strand.specs.declared.cells.StrandCells.{StrandCells}

-- so many numbers of the one list stand in the other from a place on, and no other is changed
pub record IsCopiedTo (numbers : List ℤ) (count place : ℕ) (old new : List ℤ) : Type 0 where
  pub long : length new ≡ length old
  pub here : (n : ℕ) → n < count → slice_get new (place + n) ≡ slice_get numbers n
  pub others : (i : ℕ) → ((n : ℕ) → n < count → i ≢ place + n) → slice_get new i ≡ slice_get old i

-- the address is that of a cell of its own frames, which end here
abbrev pub IsOwnBelow : StrandCells → ℕ → ℤ → Type 0
IsOwnBelow x end a = (n : ℕ) × (x.start ≤ n) × (n < end) × (a ≡ pos n)

-- its own frames' cells stand in the row, and each other cell holds what is kept of it, a delta added to what it held
pub record ArePutInto (x : StrandCells) (end : ℕ) (old new : List ℤ) : Type 0 where
  pub long : length new ≡ length old
  pub own : (a : ℤ) → IsOwnBelow x end a → cell_in new a ≡ own_cell x a
  pub others : (a : ℤ) → (IsOwnBelow x end a → ⊥) → cell_in new a ≡ put_change ((log_of x.log).writes a) (cell_in old a)

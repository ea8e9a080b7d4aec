-- How what was read is compared with a row of the board's cells, and what was written is put into one.
use Rattle.std.specs.Prelude.{◌≡◌, ◌≢◌, ◌<◌, ◌≤◌, ◌/◌, ◌*◌, ◌+◌, ℕ, ℤ, List, Some, length, slice_get}
use Rattle.frame_engine.specs.Flat.{cell_in}
use Rattle.strand_pages.specs.Known.{put_change}
use Rattle.strand_pages.specs.Logs.{Log}
use Rattle.strand_pages.specs.Pages.{Kept}

-- ---- a page

abbrev pub PageAgrees : Kept → List ℤ → Type 0
PageAgrees p row = (k : ℕ) (v : ℤ) → k < 64 → p.reads k ≡ Some v → slice_get row (p.number * 64 + k) ≡ Some v

-- the same of the places from one on and before another
abbrev pub AgreesWithin : Kept → ℕ → ℕ → List ℤ → Type 0
AgreesWithin p from end row = (k : ℕ) (v : ℤ) → from ≤ k → k < end → p.reads k ≡ Some v →
    slice_get row (p.number * 64 + k) ≡ Some v

-- some cell that was read holds something else now
pub record PageDiffers (p : Kept) (row : List ℤ) : Type 0 where
  pub place : ℕ
  pub value : ℤ
  pub within : place < 64
  pub read : p.reads place ≡ Some value
  pub other : slice_get row (p.number * 64 + place) ≢ Some value

-- what is kept of the places from one on and before another is put, and nothing else
pub record ArePut (p : Kept) (from end : ℕ) (old new : List ℤ) : Type 0 where
  pub long : length new ≡ length old
  pub here : (k : ℕ) → from ≤ k → k < end →
      slice_get new (p.number * 64 + k) ≡ put_change (p.writes k) (slice_get old (p.number * 64 + k))
  pub others : (i : ℕ) → ((k : ℕ) → from ≤ k → k < end → i ≢ p.number * 64 + k) → slice_get new i ≡ slice_get old i

pub record PageIsPut (p : Kept) (old new : List ℤ) : Type 0 where
  pub long : length new ≡ length old
  pub here : (k : ℕ) → k < 64 →
      slice_get new (p.number * 64 + k) ≡ put_change (p.writes k) (slice_get old (p.number * 64 + k))
  pub others : (i : ℕ) → i / 64 ≢ p.number → slice_get new i ≡ slice_get old i

-- ---- a log

abbrev pub Agrees : Log → List ℤ → Type 0
Agrees x row = (a v : ℤ) → x.reads a ≡ Some v → cell_in row a ≡ Some v

-- each cell holds what is kept of it, a delta added to what it held
pub record IsPutInto (x : Log) (old new : List ℤ) : Type 0 where
  pub long : length new ≡ length old
  pub cells : (a : ℤ) → cell_in new a ≡ put_change (x.writes a) (cell_in old a)

-- The adds of a log against a row of the board's cells.
use Rattle.std.specs.Prelude.{◌≡◌, ℤ, List, None, cond, length}
use Rattle.frame_engine.specs.Flat.{cell_in}
use Rattle.strand_pages.specs.Known.{put_change}
use Rattle.strand_pages.specs.Logs.{Log}
use Rattle.strand_pages.specs.Tables.{in_pages, raised_all}
use Rattle.strand_pages.specs.declared.added.Added.{Added}

-- each cell whose page is not in use holds what the adds make of it
pub record AddsArePut (x : Log) (adds : List Added) (old new : List ℤ) : Type 0 where
  pub long : length new ≡ length old
  pub cells : (a : ℤ) →
      cell_in new a ≡ put_change (cond (in_pages x.has_page a) None (raised_all None adds a)) (cell_in old a)

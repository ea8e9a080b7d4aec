-- What a page keeps of its 64 cells, by their places.
use Rattle.std.specs.Prelude.{ℕ, ℤ, List, Option, Some, None, slice_get}
use Rattle.frame_strand.specs.declared.cells.Change.{Change}
use Rattle.strand_pages.specs.Known.{at_place, first_of, read_after, settled_change}

pub record Kept : Type 0 where
  -- the page's cells begin at 64 times this
  pub number : ℕ
  -- what the board's cells held, as far as that is at hand
  pub near : ℕ → Option ℤ
  pub reads : ℕ → Option ℤ
  pub writes : ℕ → Option Change

abbrev pub blank_page : ℕ → Kept
blank_page n = record { number = n; near = λ k. None; reads = λ k. None; writes = λ k. None }

abbrev pub loaded_page : Kept → ℕ → Kept
loaded_page p k = record p {
  reads = at_place k (read_after (p.writes k) (p.near k) (p.reads k)) p.reads;
  writes = at_place k (settled_change (p.writes k) (p.near k)) p.writes;
}

abbrev pub changed_page : Kept → ℕ → Change → Kept
changed_page p k u = record p { writes = at_place k (Some u) p.writes }

-- what is at hand already stays
abbrev pub filled_page : Kept → List ℤ → Kept
filled_page p values = record p { near = λ k. first_of (p.near k) (slice_get values k) }

-- How a log keeps it.
use Rattle.std.specs.Prelude.{◌≡◌, ◌<◌, ◌≤◌, ◌/◌, ℕ, zero, suc, ℤ, pos, negsuc, List, [], ◌∷◌, Option, Some, None}
use Rattle.std.specs.Prelude.{Bool, true, false, cond, length, nat_lt, slice_get, slice_index}
use Rattle.std.specs.Option.{option_and_then}
use Rattle.std.specs.Ordering.{int_eq}
use Rattle.frame_strand.specs.Buffers.{raised_change}
use Rattle.frame_strand.specs.declared.cells.Change.{Change}
use Rattle.strand_pages.specs.Logs.{Log, is_open, place_of, same_page}
use Rattle.strand_pages.specs.Pages.{Kept}
use Rattle.strand_pages.specs.Paging.{kept_of}
use Rattle.strand_pages.specs.declared.added.Added.{Added}
use Rattle.strand_pages.specs.declared.page.Page.{Page}

pub record PageTable : Type 0 where
  -- for each page of the board one more than its slot among these, or 0
  pub directory : List ℕ
  pub pages : List Page
  pub used : ℕ

abbrev pub entry_of : List ℕ → ℤ → ℕ
entry_of directory (pos n) = slice_index directory (n / 64)
entry_of directory (negsuc n) = 0

abbrev pub page_in : List Page → ℕ → Option Page
page_in pages zero = None
page_in pages (suc slot) = slice_get pages slot

-- what the cell's page says of it, where that is in use
abbrev pub told_by : {X : Type 0} → (Kept → ℕ → Option X) → Option Page → ℕ → Option X
told_by f p k = option_and_then (λ (q : Page). f (kept_of q) k) p

abbrev pub told : {X : Type 0} → (Kept → ℕ → Option X) → PageTable → ℤ → Option X
told f t a = told_by f (page_in t.pages (entry_of t.directory a)) (place_of a)

abbrev pub pages_log : PageTable → Log
pages_log t = record {
  pages = length t.directory;
  used = t.used;
  has_page = λ n. nat_lt 0 (slice_index t.directory n);
  near = told (λ p. p.near) t;
  reads = told (λ p. p.reads) t;
  writes = told (λ p. p.writes) t;
}

pub record IsTable (t : PageTable) : Type 0 where
  pub made : t.used ≤ length t.pages
  pub few : t.used ≤ 512
  -- so addresses are numbers of 64 bits
  pub numbers : length t.directory ≤ 144115188075855872
  pub slots : (n s : ℕ) → slice_index t.directory n ≡ suc s → s < t.used
  pub numbered : (n s : ℕ) (p : Page) → slice_index t.directory n ≡ suc s → slice_get t.pages s ≡ Some p → p.number ≡ n
  pub listed : (s : ℕ) (p : Page) → s < t.used → slice_get t.pages s ≡ Some p → slice_index t.directory p.number ≡ suc s

-- ---- with the adds to cells whose pages are not in use

-- what is kept of the cell at the address after one more add
abbrev pub raised_by : Added → ℤ → Option Change → Option Change
raised_by e a u = cond (int_eq a e.at) (Some (raised_change e.number u None)) u

abbrev pub raised_all : Option Change → List Added → ℤ → Option Change
raised_all u [] a = u
raised_all u (e ∷ more) a = raised_all (raised_by e a u) more a

-- it is the cell of one of these pages
abbrev pub in_pages : (ℕ → Bool) → ℤ → Bool
in_pages pages (pos n) = pages (n / 64)
in_pages pages (negsuc n) = false

-- of cells whose pages are not in use the adds are kept
abbrev pub with_adds : Log → List Added → Log
with_adds x adds = record x { writes = λ a. cond (in_pages x.has_page a) (x.writes a) (raised_all None adds a) }

pub record Table : Type 0 where
  pub pages : PageTable
  pub adds : List Added

abbrev pub log_of : Table → Log
log_of t = with_adds (pages_log t.pages) t.adds

-- the address's page is in use, and of its cells nothing is known yet
pub record IsFresh (x : Log) (a : ℤ) : Type 0 where
  pub used : (b : ℤ) → same_page a b ≡ true → is_open x b ≡ true
  pub reads : (b : ℤ) → same_page a b ≡ true → x.reads b ≡ None
  pub writes : (b : ℤ) → same_page a b ≡ true → x.writes b ≡ None

-- it took the adds to its cells
abbrev pub taken_in : Log → ℤ → List Added → Log
taken_in x a adds = record x { writes = λ b. cond (same_page a b) (raised_all None adds b) (x.writes b) }

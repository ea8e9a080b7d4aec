-- What a log shows, by addresses.
use Rattle.std.specs.Prelude.{◌≡◌, ◌+◌, ◌*◌, ◌/◌, ◌%◌, ℕ, suc, ℤ, pos, negsuc, Bool, true, false, cond, ◌&&◌, ◌||◌}
use Rattle.std.specs.Prelude.{nat_eq, nat_lt, min, List, [], take, drop, Option, Some, None, slice_get}
use Rattle.std.specs.Int.{w64, cast_unsigned}
use Rattle.frame_strand.specs.declared.cells.Change.{Change}
use Rattle.strand_pages.specs.Known.{at_address, at_place, first_of, read_after, settled_change, value_of}

pub record Log : Type 0 where
  -- the pages of the board's cells, and how many of them are in use
  pub pages : ℕ
  pub used : ℕ
  pub has_page : ℕ → Bool
  -- what the board's cells held, as far as that is at hand
  pub near : ℤ → Option ℤ
  pub reads : ℤ → Option ℤ
  pub writes : ℤ → Option Change

abbrev pub empty_log : ℕ → Log
empty_log pages = record {
  pages = pages;
  used = 0;
  has_page = λ n. false;
  near = λ a. None;
  reads = λ a. None;
  writes =
      λ a. None;
}

-- the pages of so many cells; addresses are numbers of 64 bits
abbrev pub pages_of : ℕ → ℕ
pages_of cells = min cells 9223372036854775807 / 64 + 1

-- the place of an address among its page's cells
abbrev pub place_of : ℤ → ℕ
place_of a = cast_unsigned w64 a % 64

-- the cell's page is in use, or may be: 512 pages at most
abbrev pub has_place : Log → ℤ → Bool
has_place x (pos n) = nat_lt (n / 64) x.pages && (x.has_page (n / 64) || nat_lt x.used 512)
has_place x (negsuc n) = false

-- the cell's page is in use
abbrev pub is_open : Log → ℤ → Bool
is_open x (pos n) = nat_lt (n / 64) x.pages && x.has_page (n / 64)
is_open x (negsuc n) = false

-- more pages may be in use, and nothing else differs
pub record IsWider (old new : Log) : Type 0 where
  pub near : new.near ≡ old.near
  pub reads : new.reads ≡ old.reads
  pub writes : new.writes ≡ old.writes
  pub in_use : (a : ℤ) → is_open old a ≡ true → is_open new a ≡ true

-- what the cell holds, as far as that is at hand
abbrev pub value_at : Log → ℤ → Option ℤ
value_at x a = value_of (x.writes a) (x.near a)

-- the page that has the cell is in use
abbrev pub pages_with : Log → ℤ → ℕ → Bool
pages_with x (pos n) = at_place (n / 64) true x.has_page
pages_with x (negsuc n) = x.has_page

abbrev pub used_with : Log → ℤ → ℕ
used_with x (pos n) = cond (x.has_page (n / 64)) x.used (suc x.used)
used_with x (negsuc n) = x.used

abbrev pub with_page : Log → ℤ → Log
with_page x a = record x { used = used_with x a; has_page = pages_with x a }

abbrev pub loaded_log : Log → ℤ → Log
loaded_log x a = record x {
  reads = at_address a (read_after (x.writes a) (x.near a) (x.reads a)) x.reads;
  writes = at_address a (settled_change (x.writes a) (x.near a)) x.writes;
}

abbrev pub with_change : Log → ℤ → Change → Log
with_change x a u = record x { writes = at_address a (Some u) x.writes }

abbrev pub changed_log : Log → ℤ → Change → Log
changed_log x a u = with_change (with_page x a) a u

abbrev pub same_page : ℤ → ℤ → Bool
same_page (pos m) (pos n) = nat_eq (n / 64) (m / 64)
same_page (pos m) (negsuc n) = false
same_page (negsuc m) b = false

-- the page of the address holds these values, as far as none were at hand
abbrev pub with_values : Log → ℤ → List ℤ → Log
with_values x a values =
    record x { near = λ b. cond (same_page a b) (first_of (x.near b) (slice_get values (place_of b))) (x.near b) }

abbrev pub filled_log : Log → ℤ → List ℤ → Log
filled_log x a values = with_values (with_page x a) a values

-- ---- the board's cells

-- the cells of the page that has the one of this index, from the page's first on
abbrev pub page_from : List ℤ → ℕ → List ℤ
page_from row n = take 64 (drop (n / 64 * 64) row)

abbrev pub page_around : List ℤ → ℤ → List ℤ
page_around row (pos n) = page_from row n
page_around row (negsuc n) = []

-- How a page keeps it.
use Rattle.std.specs.Prelude.{ℕ, ℤ, pos, Bool, true, false, cond, nat_lt, List, Option, Some, None, slice_index_or}
use Rattle.frame_strand.specs.declared.cells.Change.{Change}
use Rattle.frame_strand.specs.declared.cells.Change.TheVariants.{Stored, Delta}
use Rattle.strand_pages.specs.Bits.{is_set}
use Rattle.strand_pages.specs.Pages.{Kept}
use Rattle.strand_pages.specs.declared.page.Page.{Page}

abbrev pub number_at : List ℤ → ℕ → ℤ
number_at row k = slice_index_or row k (pos 0)

abbrev pub number_if : Bool → ℤ → Option ℤ
number_if there z = cond there (Some z) None

-- a number that is stored, else one that is added
abbrev pub change_by : Bool → Bool → ℤ → Option Change
change_by true delta z = Some (Stored z)
change_by false true z = Some (Delta z)
change_by false false z = None

abbrev pub near_by : ℕ → List ℤ → ℕ → Option ℤ
near_by filled values k = number_if (nat_lt k filled) (number_at values k)

abbrev pub reads_by : ℕ → List ℤ → ℕ → Option ℤ
reads_by read values k = number_if (is_set read k) (number_at values k)

abbrev pub writes_by : ℕ → ℕ → List ℤ → ℕ → Option Change
writes_by stored delta changes k = change_by (is_set stored k) (is_set delta k) (number_at changes k)

abbrev pub kept_of : Page → Kept
kept_of x = record {
  number = x.number;
  near = near_by x.filled x.values;
  reads = reads_by x.read x.values;
  writes =
      writes_by x.stored x.delta x.changes;
}

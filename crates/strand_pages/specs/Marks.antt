-- Which pages may have adds in a list.
use Rattle.std.specs.Prelude.{◌≡◌, ◌/◌, ◌%◌, ℕ, ℤ, Bool, true, false, List, Some, get_or, slice_get}
use Rattle.std.specs.Int.{w64, cast_unsigned}
use Rattle.strand_pages.specs.declared.added.AddList.TheInside.{Inside}
use Rattle.strand_pages.specs.declared.added.Added.{Added}

abbrev pub added_of : Inside → List Added
added_of x = x.adds.items

-- the mark of the address's page
abbrev pub mark_of : ℤ → ℕ
mark_of a = cast_unsigned w64 a / 64 % 4096

abbrev pub AreMarked : List Bool → List Added → Type 0
AreMarked marks adds = (i : ℕ) (e : Added) → slice_get adds i ≡ Some e → get_or marks (mark_of e.at) false ≡ true

-- The globals' numbers in one row.
use Rattle.std.specs.Prelude.{List, [], ◌∷◌, ◌++◌, length, take, drop, ℤ}
use Rattle.store.specs.Cells.{NamedCells}

abbrev pub row_of : List NamedCells → List ℤ
row_of [] = []
row_of (g ∷ more) = g.cells ++ row_of more

-- each global takes as many numbers of the row as it has cells
abbrev pub refilled : List NamedCells → List ℤ → List NamedCells
refilled [] row = []
refilled (g ∷ more) row = record { name = g.name; cells = take (length g.cells) row } ∷
    refilled more (drop (length g.cells) row)

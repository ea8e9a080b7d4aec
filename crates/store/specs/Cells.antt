-- The globals' cells.
use Rattle.std.specs.Prelude.{ℕ, ℤ, List, Option, Some, None}
use Rattle.std.specs.Prelude.{slice_get}

pub record NamedCells : Type 0 where
  pub name : List ℕ
  pub cells : List ℤ

abbrev pub cell_in : Option NamedCells → ℕ → Option ℤ
cell_in None i = None
cell_in (Some g) i = slice_get g.cells i

-- what the cell of a global, by its number, holds
abbrev pub cell_at : List NamedCells → ℕ → ℕ → Option ℤ
cell_at m g i = cell_in (slice_get m g) i

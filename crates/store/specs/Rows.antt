-- The globals' numbers in one row.
use Rattle.std.specs.Prelude.{ℕ, List, length, map}
use Rattle.store.specs.Cells.{NamedCells}

-- how many cells each global has
abbrev pub sizes_of : List NamedCells → List ℕ
sizes_of m = map (λ (g : NamedCells). length g.cells) m

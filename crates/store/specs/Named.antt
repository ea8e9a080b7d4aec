-- Globals' cells by name, and one that takes a value.
use Rattle.std.specs.Prelude.{◌≡◌, ◌≢◌, ℕ, ℤ, pos, List, Option, Some, None, map, length, replicate, position, ◌<◌}
use Rattle.std.specs.Prelude.{IsSome, slice_get}
use Rattle.std.specs.Str.{bytes_eq}
use Rattle.program.specs.declared.function.Global.{Global}
use Rattle.store.specs.Cells.{NamedCells, cell_at}
use Rattle.program.specs.declared.function.Program.{Program}

-- how many cells a global has
abbrev pub size_of : NamedCells → ℕ
size_of g = length g.cells

-- the number of the global of a name
abbrev pub number_of : List NamedCells → List ℕ → Option ℕ
number_of m name = position (λ g. bytes_eq g.name name) m

abbrev pub cell_of : List NamedCells → Option ℕ → ℕ → Option ℤ
cell_of m None i = None
cell_of m (Some g) i = cell_at m g i

-- what the cell of a global, by its name, holds
abbrev pub cell_named : List NamedCells → List ℕ → ℕ → Option ℤ
cell_named m name i = cell_of m (number_of m name) i

abbrev pub zeros : Global → NamedCells
zeros g = record { name = g.name; cells = replicate g.cells (pos 0) }

-- one cell takes a value; nothing else changes
pub record Sets (before after : List NamedCells) (g i : ℕ) (z : ℤ) : Type 0 where
  pub there : cell_at after g i ≡ Some z
  pub others : (h j : ℕ) → (h ≡ g → j ≢ i) → cell_at after h j ≡ cell_at before h j
  pub names : map (λ g. g.name) after ≡ map (λ g. g.name) before

-- each cell that the program's globals declare is there
abbrev pub HasGlobalCells : Program → List NamedCells → Type 0
HasGlobalCells program memory = (g i : ℕ) (global : Global) → slice_get program.globals g ≡ Some global →
    i < global.cells → IsSome (cell_at memory g i)

-- Objects, their cells, and memory.
use Rattle.std.specs.Prelude.{ℕ, Bool, false, ◌&&◌, eqb, Option, None, ℤ}
use Rattle.semantics.specs.Paths.{Path, same_path}

-- a global by its number, or an alloca of the function's frame that owns it (LLVM Language Reference, "Global
-- Variables" and "alloca")
pub data Object : Type 0 where
  Shared : (global : ℕ) → Object
  Local : (owner : Path) (alloca : ℕ) → Object

pub record Cell : Type 0 where
  pub object : Object
  pub index : ℕ

abbrev pub same_object : Object → Object → Bool
same_object (Shared g) (Shared h) = eqb g h
same_object (Local o n) (Local q m) = same_path o q && eqb n m
same_object one other = false

abbrev pub same_cell : Cell → Cell → Bool
same_cell c d = same_object c.object d.object && eqb c.index d.index

-- a cell without a value is undefined
abbrev pub Memory : Type 0
Memory = Cell → Option ℤ

abbrev pub if_shared : Object → Option ℤ → Option ℤ
if_shared (Shared g) value = value
if_shared (Local owner n) value = None

-- the globals' cells alone
abbrev pub globals_of : Memory → Memory
globals_of m c = if_shared c.object (m c)

abbrev pub owns : Path → Object → Bool
owns p (Shared g) = false
owns p (Local owner n) = same_path p owner

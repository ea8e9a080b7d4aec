-- What is written of a memory's cells: nothing, no value, or a number.
use Rattle.std.specs.Prelude.{ℕ, ◌&&◌, cond, nat_lt, Option, Some, None, ℤ, pos}
use Rattle.semantics.specs.Cells.{Object, Cell, same_object, same_cell}

-- what is not there counts as 0
abbrev pub or_zero : Option ℤ → ℤ
or_zero None = pos 0
or_zero (Some z) = z

abbrev pub one_cell : Cell → ℤ → Cell → Option (Option ℤ)
one_cell c z x = cond (same_cell c x) (Some (Some z)) None

-- the cells of the object below n become 0
abbrev pub zeros_below : Object → ℕ → Cell → Option (Option ℤ)
zeros_below o n x = cond (same_object o x.object && nat_lt x.index n) (Some (Some (pos 0))) None

-- What a log knows of one cell: what is kept of it, what its page on the board held, and what was read.
use Rattle.std.specs.Prelude.{ℕ, ℤ, Option, Some, None, cond, nat_eq}
use Rattle.std.specs.Option.{option_map}
use Rattle.std.specs.Ordering.{int_eq}
use Rattle.semantics.specs.Arithmetic.{cell_sum}
use Rattle.semantics.specs.State.{sum_in}
use Rattle.frame_strand.specs.declared.cells.Change.{Change}
use Rattle.frame_strand.specs.declared.cells.Change.TheVariants.{Stored, Delta}

abbrev pub first_of : Option ℤ → Option ℤ → Option ℤ
first_of None other = other
first_of (Some v) other = Some v

-- what the cell holds, as far as that is at hand
abbrev pub value_of : Option Change → Option ℤ → Option ℤ
value_of None near = near
value_of (Some (Stored z)) near = Some z
value_of (Some (Delta z)) near = option_map (λ v. cell_sum v z) near

-- what was read of it once it was loaded
abbrev pub read_after : Option Change → Option ℤ → Option ℤ → Option ℤ
read_after None near read = first_of near read
read_after (Some (Stored z)) near read = read
read_after (Some (Delta z)) near read = first_of near read

-- what is kept of it then: a delta on what was read
abbrev pub settled_change : Option Change → Option ℤ → Option Change
settled_change None near = None
settled_change (Some (Stored z)) near = Some (Stored z)
settled_change (Some (Delta z)) None = Some (Delta z)
settled_change (Some (Delta z)) (Some v) = Some (Stored (cell_sum v z))

-- what is kept of it, put into the board's cell
abbrev pub put_change : Option Change → Option ℤ → Option ℤ
put_change None value = value
put_change (Some (Stored z)) value = Some z
put_change (Some (Delta z)) value = sum_in z value

-- ---- one of many cells

abbrev pub at_place : {X : Type 0} → ℕ → X → (ℕ → X) → ℕ → X
at_place k x f j = cond (nat_eq j k) x (f j)

abbrev pub at_address : {X : Type 0} → ℤ → X → (ℤ → X) → ℤ → X
at_address a x f b = cond (int_eq b a) x (f b)

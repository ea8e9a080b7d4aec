-- The buffers of a strand, by address.
use Rattle.std.specs.Prelude.{◌≡◌, ◌<◌, ◌≤◌, ℤ, Bool, true, nat_le, length, IsSome, List, [], ◌∷◌, cond, find, Option}
use Rattle.std.specs.Prelude.{Some, None}
use Rattle.std.specs.Ordering.{int_eq}
use Rattle.std.specs.Option.{option_map}
use Rattle.semantics.specs.Arithmetic.{cell_sum}
use Rattle.frame_engine.specs.Access.{Access, Loads, Stores, Adds}
use Rattle.frame_strand.specs.declared.cells.Read.{Read}
use Rattle.frame_strand.specs.declared.cells.Written.{Written}
use Rattle.frame_strand.specs.declared.cells.Change.{Change}
use Rattle.frame_strand.specs.declared.cells.CellStop.{CellStop}
use Rattle.frame_strand.specs.declared.cells.CellStop.TheVariants.{Full, Need}
use Rattle.frame_strand.specs.declared.cells.Change.TheVariants.{Stored, Delta}

pub record Buffers : Type 0 where
  pub reads : List Read
  pub writes : List Written

abbrev pub value_in : List Read → ℤ → Option ℤ
value_in reads a = option_map (λ (r : Read). r.value) (find (λ (r : Read). int_eq a r.at) reads)

abbrev pub change_in : List Written → ℤ → Option Change
change_in writes a = option_map (λ (w : Written). w.change) (find (λ (w : Written). int_eq a w.at) writes)

abbrev pub known_value : Option Change → Option ℤ → Option ℤ
known_value (Some (Stored z)) read = Some z
known_value (Some (Delta z)) read = None
known_value None read = read

-- what the cell at the address is known to hold
abbrev pub held_in : Buffers → ℤ → Option ℤ
held_in b a = known_value (change_in b.writes a) (value_in b.reads a)

-- as far as the buffers tell, the cell at the address may hold the number
abbrev pub may_hold : Buffers → ℤ → ℤ → Type 0
may_hold b a z = (v : ℤ) → held_in b a ≡ Some v → v ≡ z

-- any cell may be asked for
abbrev pub any_address : Buffers → ℤ → Bool
any_address b a = true

abbrev pub with_change : List Written → ℤ → Change → List Written
with_change [] a u = record { at = a; change = u } ∷ []
with_change (w ∷ more) a u = cond (int_eq a w.at) (record w { change = u } ∷ more) (w ∷ with_change more a u)

-- what is kept of a cell after an add, by what was kept and what was read
abbrev pub raised_change : ℤ → Option Change → Option ℤ → Change
raised_change z (Some (Stored y)) read = Stored (cell_sum y z)
raised_change z (Some (Delta y)) read = Delta (cell_sum y z)
raised_change z None (Some y) = Stored (cell_sum y z)
raised_change z None None = Delta z

-- a delta on what was read
abbrev pub settled_changes : List Written → ℤ → ℤ → Option Change → List Written
settled_changes writes a v None = writes
settled_changes writes a v (Some (Stored z)) = writes
settled_changes writes a v (Some (Delta z)) = with_change writes a (Stored (cell_sum v z))

-- there was a place for the cell, and its change is kept
pub record IsPut (b : Buffers) (a : ℤ) (u : Change) (after : Buffers) : Type 0 where
  pub place : change_in b.writes a ≡ None → length b.writes < 256
  pub is : after ≡ record b { writes = with_change b.writes a u }

-- the cell is a new one, and there is no place for it
pub record LacksPlace (b : Buffers) (a : ℤ) (stop : CellStop) : Type 0 where
  pub is : stop ≡ Full
  pub new : change_in b.writes a ≡ None
  pub full : 256 ≤ length b.writes

-- the access was done
abbrev pub BuffersDo : Buffers → Access → Buffers → Type 0
BuffersDo b (Loads a) after = IsSome (held_in b a) × (after ≡ b)
BuffersDo b (Stores a z) after = IsPut b a (Stored z) after
BuffersDo b (Adds a z) after = IsPut b a (raised_change z (change_in b.writes a) (value_in b.reads a)) after

-- why an access is not done
abbrev pub BuffersRefuse : Buffers → Access → CellStop → Type 0
BuffersRefuse b (Loads a) stop = (held_in b a ≡ None) × (stop ≡ cond (nat_le 256 (length b.reads)) Full (Need a))
BuffersRefuse b (Stores a z) stop = LacksPlace b a stop
BuffersRefuse b (Adds a z) stop = LacksPlace b a stop

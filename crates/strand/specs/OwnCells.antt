-- The cells of a strand by address: those of its segment, and what it read and wrote of others.
use Rattle.std.specs.Prelude.{◌≡◌, ◌≢◌, ℤ, pos, ◌-ℤ◌, Bool, true, length, Option, Some, None}
use Rattle.semantics.specs.Arithmetic.{cell_sum}
use Rattle.frame_engine.specs.Access.{Access, Loads, Stores, Adds}
use Rattle.frame_engine.specs.Flat.{cell_in}
use Rattle.strand.specs.frame_strand.declared.cells.CellStop.{CellStop}
use Rattle.strand_pages.specs.Accessing.{TableDoes, TableRefuses}
use Rattle.strand_pages.specs.Logs.{is_open, value_at}
use Rattle.strand_pages.specs.Tables.{log_of}
use Rattle.strand.specs.Layouts.{Segment}
use Rattle.strand.specs.declared.cells.StrandCells.{StrandCells}

abbrev pub segment_of : StrandCells → Segment
segment_of x = record { start = x.start; count = length x.own.items }

-- what the segment's cell at the address holds
abbrev pub own_cell : StrandCells → ℤ → Option ℤ
own_cell x a = cell_in x.own.items (a -ℤ pos x.start)

abbrev pub own_or : Option ℤ → Option ℤ → Option ℤ
own_or (Some z) other = Some z
own_or None other = other

-- what the cell at the address is known to hold
abbrev pub held_at : StrandCells → ℤ → Option ℤ
held_at x a = own_or (own_cell x a) (value_at (log_of x.log) a)

-- the cell can be stored to: it is one of the segment, or its page is in use
abbrev pub CanStore : StrandCells → ℤ → Type 0
CanStore x a = own_cell x a ≡ None → is_open (log_of x.log) a ≡ true

-- as far as the cells tell, the cell may hold the number
abbrev pub may_be : StrandCells → ℤ → ℤ → Type 0
may_be x a z = (v : ℤ) → held_at x a ≡ Some v → v ≡ z

-- any cell may be asked for
abbrev pub any_cell : StrandCells → ℤ → Bool
any_cell x a = true

-- the segment's cell at the address takes the number
pub record IsOwnPut (x : StrandCells) (a z : ℤ) (after : StrandCells) : Type 0 where
  pub here : own_cell after a ≡ Some z
  pub others : (b : ℤ) → b ≢ a → own_cell after b ≡ own_cell x b
  pub segment : segment_of after ≡ segment_of x
  pub log : after.log ≡ x.log

abbrev pub address_of : Access → ℤ
address_of (Loads a) = a
address_of (Stores a z) = a
address_of (Adds a z) = a

-- done to a cell of the segment, which holds v
abbrev pub OwnDo : StrandCells → ℤ → Access → StrandCells → Type 0
OwnDo x v (Loads a) after = after ≡ x
OwnDo x v (Stores a z) after = IsOwnPut x a z after
OwnDo x v (Adds a z) after = IsOwnPut x a (cell_sum v z) after

abbrev pub DoBy : Option ℤ → StrandCells → Access → StrandCells → Type 0
DoBy (Some v) x access after = OwnDo x v access after
DoBy None x access after = TableDoes x.log access after.log × (after ≡ record x { log = after.log })

-- the access was done
abbrev pub CellsDo : StrandCells → Access → StrandCells → Type 0
CellsDo x access after = DoBy (own_cell x (address_of access)) x access after

abbrev pub RefuseBy : Option ℤ → StrandCells → Access → CellStop → Type 0
RefuseBy (Some v) x access stop = ⊥
RefuseBy None x access stop = TableRefuses x.log access stop

-- why an access is not done
abbrev pub CellsRefuse : StrandCells → Access → CellStop → Type 0
CellsRefuse x access stop = RefuseBy (own_cell x (address_of access)) x access stop

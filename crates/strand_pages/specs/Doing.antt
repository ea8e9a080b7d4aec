-- What accesses do to a log.
use Rattle.std.specs.Prelude.{◌≡◌, ℤ, true, false, cond, IsSome, Some, None}
use Rattle.frame_engine.specs.Access.{Access, Loads, Stores, Adds}
use Rattle.frame_strand.specs.Buffers.{raised_change}
use Rattle.frame_strand.specs.declared.cells.Change.{Change}
use Rattle.frame_strand.specs.declared.cells.Change.TheVariants.{Stored}
use Rattle.frame_strand.specs.declared.cells.CellStop.{CellStop}
use Rattle.frame_strand.specs.declared.cells.CellStop.TheVariants.{Full, Need}
use Rattle.strand_pages.specs.Logs.{IsWider, Log, changed_log, has_place, loaded_log, value_at, with_change}

-- as far as the log tells, the cell at the address may hold the number
abbrev pub may_hold : Log → ℤ → ℤ → Type 0
may_hold x a z = (v : ℤ) → value_at x a ≡ Some v → v ≡ z

-- there was a place for the cell, and its change is kept
pub record IsChanged (x : Log) (a : ℤ) (u : Change) (after : Log) : Type 0 where
  pub place : has_place x a ≡ true
  pub is : after ≡ changed_log x a u

-- the cell's change is kept, and its page may be in use or not
abbrev pub IsKept : Log → ℤ → Change → Log → Type 0
IsKept x a u after = IsWider (with_change x a u) after

-- the cell is at hand, and where its value is not one that was stored it counts as read
pub record IsLoaded (x : Log) (a : ℤ) (after : Log) : Type 0 where
  pub there : IsSome (value_at x a)
  pub is : after ≡ loaded_log x a

-- the cell is not at hand; its page may be filled, or there is no place for it
pub record IsMissing (x : Log) (a : ℤ) (stop : CellStop) : Type 0 where
  pub absent : value_at x a ≡ None
  pub is : stop ≡ cond (has_place x a) (Need a) Full

-- there is no place for the cell
pub record LacksPlace (x : Log) (a : ℤ) (stop : CellStop) : Type 0 where
  pub none : has_place x a ≡ false
  pub is : stop ≡ Full

abbrev pub LogDoes : Log → Access → Log → Type 0
LogDoes x (Loads a) after = IsLoaded x a after
LogDoes x (Stores a z) after = IsChanged x a (Stored z) after
LogDoes x (Adds a z) after = IsKept x a (raised_change z (x.writes a) (x.reads a)) after

abbrev pub LogRefuses : Log → Access → CellStop → Type 0
LogRefuses x (Loads a) stop = IsMissing x a stop
LogRefuses x (Stores a z) stop = LacksPlace x a stop
LogRefuses x (Adds a z) stop = LacksPlace x a stop

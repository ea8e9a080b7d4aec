-- A log's cells, as the engine's loop has them.
use Rattle.std.specs.Prelude.{ℤ, Bool, true}
use Rattle.frame_engine.specs.Access.{Access}
use Rattle.frame_strand.specs.declared.cells.CellStop.{CellStop}
use Rattle.strand_pages.specs.Doing.{LogDoes, LogRefuses, may_hold}
use Rattle.strand_pages.specs.Tables.{Table, log_of}

-- any cell may be asked for
abbrev pub any_address : Table → ℤ → Bool
any_address x a = true

abbrev pub CellHolds : Table → ℤ → ℤ → Type 0
CellHolds x a z = may_hold (log_of x) a z

abbrev pub TableDoes : Table → Access → Table → Type 0
TableDoes x access after = LogDoes (log_of x) access (log_of after)

abbrev pub TableRefuses : Table → Access → CellStop → Type 0
TableRefuses x access stop = LogRefuses (log_of x) access stop

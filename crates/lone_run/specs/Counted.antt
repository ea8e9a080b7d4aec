-- For the functions of this crate alone: how many cells a strand has read and written.
use Rattle.std.specs.Prelude.{◌≡◌, ◌≤◌}
use Rattle.frame_engine.specs.Access.{Access, Adds, Loads, Stores}
use Rattle.lone_run.specs.declared.counts.Counts.{Counts}

-- none: the strand begins
abbrev pub IsBlank : Counts → Type 0
IsBlank c = (c.reads ≡ 0) × (c.writes ≡ 0)

-- the access is of one cell more, and there may be none
abbrev pub IsFull : Counts → Access → Type 0
IsFull c (Loads at) = 256 ≤ c.reads
IsFull c (Stores at z) = 256 ≤ c.writes
IsFull c (Adds at z) = 256 ≤ c.writes

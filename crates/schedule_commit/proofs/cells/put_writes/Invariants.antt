use Rattle.std.proofs.Common.{take}
use Rattle.schedule_commit.specs.Putting.{IsPutInto}
use Rattle.schedule_commit.proofs.cells.put_writes.Given as goal

abbrev pub invariant-loop-written : goal.invariant-loop-written
invariant-loop-written l = IsPutInto (take l.written-index l.writes) l.initial.row l.row

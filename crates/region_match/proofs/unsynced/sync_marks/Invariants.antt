use Rattle.region_match.proofs.OpenFacts.{SyncMarks}
use Rattle.region_match.proofs.unsynced.sync_marks.Given as goal

abbrev pub invariant-loop-block : goal.invariant-loop-block
invariant-loop-block l = SyncMarks l.bodies l.region l.block l.marks.items

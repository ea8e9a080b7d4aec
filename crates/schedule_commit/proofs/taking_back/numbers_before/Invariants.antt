use Rattle.schedule_commit.proofs.Restored.{AreNumbersTo}
use Rattle.schedule_commit.proofs.taking_back.numbers_before.Given as goal

abbrev pub invariant-loop-written : goal.invariant-loop-written
invariant-loop-written l = AreNumbersTo l.written-index l.row l.writes l.numbers.items

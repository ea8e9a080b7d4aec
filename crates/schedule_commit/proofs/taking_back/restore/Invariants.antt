use Rattle.schedule_commit.proofs.Restored.{IsRestoredTo}
use Rattle.schedule_commit.proofs.taking_back.restore.Given as goal

abbrev pub invariant-loop-index : goal.invariant-loop-index
invariant-loop-index l = IsRestoredTo l.index l.writes l.numbers l.initial.row l.row

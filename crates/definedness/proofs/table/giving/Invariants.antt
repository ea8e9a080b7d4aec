use Rattle.definedness.proofs.Tables.{MarksOf}
use Rattle.definedness.proofs.table.giving.Given as goal

abbrev pub invariant-loop-block : goal.invariant-loop-block
invariant-loop-block l = MarksOf l.all l.number l.block-index l.marks.items

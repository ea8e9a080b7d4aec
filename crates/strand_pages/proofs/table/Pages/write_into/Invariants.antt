use Rattle.strand_pages.proofs.Committed.{PutUpTo}
use Rattle.strand_pages.proofs.table.Pages.write_into.Given as goal

abbrev pub invariant-loop-slot : goal.invariant-loop-slot
invariant-loop-slot l = PutUpTo l.self l.initial.row l.row l.slot

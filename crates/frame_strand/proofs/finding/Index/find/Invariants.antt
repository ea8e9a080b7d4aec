use Rattle.frame_strand.proofs.Chained.{Searching}
use Rattle.frame_strand.proofs.finding.Index.find.Given as goal

abbrev pub invariant-loop-next : goal.invariant-loop-next
invariant-loop-next l = Searching l.self-inside.entries.items l.at l.next

abbrev pub decreases-loop-next : goal.decreases-loop-next
decreases-loop-next l = l.next

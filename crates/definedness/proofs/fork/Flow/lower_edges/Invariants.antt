use Rattle.definedness.proofs.Greatest.{EdgesFrom}
use Rattle.definedness.proofs.fork.Flow.lower_edges.Given as goal

abbrev pub invariant-loop-left : goal.invariant-loop-left
invariant-loop-left l = EdgesFrom l.stops l.self.forks.now l.self.blocks.now l.from l.edges l.fn.sets l.fn.work.items l.left l.sets l.work.items

abbrev pub decreases-loop-left : goal.decreases-loop-left
decreases-loop-left l = l.left

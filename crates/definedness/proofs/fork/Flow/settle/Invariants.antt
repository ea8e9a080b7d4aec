use Rattle.std.proofs.Common.{length}
use Rattle.definedness.specs.Settling.{load}
use Rattle.definedness.proofs.Greatest.{Settling}
use Rattle.definedness.proofs.fork.Flow.settle.Given as goal

abbrev pub invariant-loop-block : goal.invariant-loop-block
invariant-loop-block l = Settling l.stops l.self.forks.now l.self.blocks.now l.sets l.work.items

abbrev pub decreases-loop-block : goal.decreases-loop-block
decreases-loop-block l = load (length l.self.blocks.now) l.sets l.work.items

use Rattle.definedness.proofs.Forking.{ForksBelow}
use Rattle.definedness.proofs.fork.all_forks.Given as goal

abbrev pub invariant-loop-block : goal.invariant-loop-block
invariant-loop-block l = ForksBelow l.bodies l.blocks l.block l.forks.items

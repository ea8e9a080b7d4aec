use Rattle.std.proofs.Common.{arith}
use Rattle.definedness.proofs.Greatest.{edges_next}
use Rattle.definedness.proofs.fork.Flow.lower_edges.Goals as goal

pub loop-left-preserved : goal.loop-left-preserved
loop-left-preserved c = edges_next c.args.stops.now c.args.self.now.forks.now c.args.self.now.blocks.now c.args.from c.args.edges.now c.args.sets.now c.args.work.now.items c.loop-left.left c.loop-left.sets c.loop-left.work.items c.lower_along.new.sets c.lower_along.new.work.items c.index-edges-left.result c.requires.edges (omega (arith, c.loop-left-test.true)) c.index-edges-left.is c.loop-left.invariant c.in_ok-lower_along.ensures.lowers c.in_ok-lower_along.ensures.kept

pub returns-clause-kept : goal.returns-clause-kept
returns-clause-kept c k d w = c.loop-left.invariant.kept k d (omega (arith, c.loop-left-test.false)) w

use Rattle.cfg.proofs.EdgeLists.{successors_push}
use Rattle.cfg.proofs.edges.push_edges.Goals as goal

pub loop-successor-preserved : goal.loop-successor-preserved
loop-successor-preserved c = successors_push _ _ _ _ _ _ _ _ c.loop-successor-test.true c.loop-successor.invariant c.in_ok-push_edge.ensures

use Rattle.cfg.proofs.EdgeLists.{edges_push}
use Rattle.cfg.proofs.edges.function_graph.Goals as goal

pub loop-from-preserved : goal.loop-from-preserved
loop-from-preserved c = rw c.in_ok-push.ensures.items (edges_push _ _ c.index-blocks-from.result _ _ c.loop-from-test.true c.loop-from.invariant c.index-blocks-from.is c.in_ok-block_edges.ensures)

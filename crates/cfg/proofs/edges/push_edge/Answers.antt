use Rattle.cfg.proofs.EdgeLists.{edge_to_none}
use Rattle.cfg.proofs.edges.push_edge.Goals as goal

pub returns-in_default : goal.returns-in_default
returns-in_default c = edge_to_none _ _ c.args.successor _ c.in_default.ensures.lookup.0

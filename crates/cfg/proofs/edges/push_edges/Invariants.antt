use Rattle.std.proofs.Common.{◌≡◌, ◌++◌, take}
use Rattle.std.specs.List.{filter_map}
use Rattle.cfg.specs.Edges.{edge_of}
use Rattle.cfg.proofs.edges.push_edges.Given as goal

abbrev pub invariant-loop-successor : goal.invariant-loop-successor
invariant-loop-successor l = l.edges.items ≡ l.fn.edges.items ++ filter_map (edge_of l.blocks l.from) (take l.successor-index l.successors)

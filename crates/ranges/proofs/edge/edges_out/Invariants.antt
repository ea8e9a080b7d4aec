use Rattle.std.proofs.Common.{◌≡◌, map, take}
use Rattle.ranges.specs.Edges.{edge_along}
use Rattle.ranges.proofs.edge.edges_out.Given as goal

abbrev pub invariant-loop-successor : goal.invariant-loop-successor
invariant-loop-successor l = l.edges.items ≡ map (edge_along l.steps) (take l.successor-index l.successor-items)

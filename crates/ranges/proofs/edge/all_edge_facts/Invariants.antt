use Rattle.std.proofs.Common.{◌≡◌, List, take}
use Rattle.linear.specs.declared.form.Fact.{Fact}
use Rattle.ranges.specs.Edges.{all_edge_facts}
use Rattle.ranges.specs.Tables.{all_with_known}
use Rattle.ranges.proofs.edge.all_edge_facts.Given as goal

abbrev pub invariant-loop-edge : goal.invariant-loop-edge
invariant-loop-edge l = (known : List Fact) → all_with_known known l.list.items ≡ all_edge_facts l.blocks l.from known (take l.edge-index l.edges)

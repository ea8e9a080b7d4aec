use Rattle.std.proofs.Common.{◌≡◌, take}
use Rattle.cfg.specs.Edges.{edges_from}
use Rattle.cfg.proofs.edges.function_graph.Given as goal

abbrev pub invariant-loop-from : goal.invariant-loop-from
invariant-loop-from l = l.made.items ≡ edges_from l.blocks 0 (take l.from l.blocks)

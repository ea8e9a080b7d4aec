use Rattle.std.proofs.Common.{◌≡◌, map, take}
use Rattle.cfg.specs.declared.structure.BlockEdges.{BlockEdges}
use Rattle.cfg.specs.Rules.{leads_to}
use Rattle.cfg.proofs.judge.predecessors.Given as goal

abbrev pub invariant-loop-body : goal.invariant-loop-body
invariant-loop-body l = l.marks.items ≡ map (λ (body : BlockEdges). leads_to l.block body.edges) (take l.body-index l.blocks)

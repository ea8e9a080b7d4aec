use Rattle.std.proofs.Common.{◌∙◌}
use Rattle.refusal.specs.declared.broken.Broken.{Broken}
use Rattle.refusal.proofs.Elements.{earliest_next, earliest_all}
use Rattle.ranges.specs.declared.table.EdgeFacts.{EdgeFacts}
use Rattle.ranges.specs.Tables.{with_known}
use Rattle.ranges.proofs.Edges.{earliest_known}
use Rattle.footprints.specs.Rules.{IsEdgeBroken}
use Rattle.footprints.proofs.judge.edges_fault.Goals as goal

pub loop-edge-preserved : goal.loop-edge-preserved
loop-edge-preserved c =
    let known = c.args.facts.now.0 in (
      c.in_ok-broken.ensures.lent ∙ c.loop-edge.invariant.0,
      earliest_next (λ (e : EdgeFacts) (b : Broken). IsEdgeBroken c.args.blocks.now c.args.block.now c.args.ending.now (with_known known e) b) c.args.edges.now _ c.edge-item.result _ _ _ c.loop-edge-test.true c.edge-item.is c.loop-edge.invariant.1
          (rw c.loop-edge.invariant.0 at c.in_ok-broken.ensures.fault) c.lower-named.ensures,
    )

pub returns : goal.returns
returns c =
    let known = c.args.facts.now.0 in
    earliest_known known (λ (e : EdgeFacts) (b : Broken). IsEdgeBroken c.args.blocks.now c.args.block.now c.args.ending.now e b) c.args.edges.now _
    (earliest_all (λ (e : EdgeFacts) (b : Broken). IsEdgeBroken c.args.blocks.now c.args.block.now c.args.ending.now (with_known known e) b) c.args.edges.now _ _ c.loop-edge-test.false c.loop-edge.invariant.1)

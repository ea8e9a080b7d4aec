use Rattle.std.proofs.Common.{◌∙◌, ap}
use Rattle.refusal.specs.declared.broken.Broken.{Broken}
use Rattle.refusal.proofs.Elements.{earliest_none, earliest_next, earliest_all}
use Rattle.ranges.specs.declared.table.EdgeFacts.{EdgeFacts}
use Rattle.ranges.specs.Tables.{with_known}
use Rattle.ranges.proofs.Edges.{earliest_known}
use Rattle.cost_table.specs.Rules.{IsEdgeUncovered}
use Rattle.cost_table.proofs.judge.BlockEnd.edges_fault.Goals as goal

pub loop-edge-init : goal.loop-edge-init
loop-edge-init c = (
  ap (λ x. x.0) c.new-facts.ensures,
  λ functions f is. earliest_none (λ (e : EdgeFacts) (b : Broken). IsEdgeUncovered functions c.args.self.now.function.now f c.args.self.now.block.now c.args.self.now.line (with_known c.args.known.now e) b) c.args.edges.now,
)

pub loop-edge-preserved : goal.loop-edge-preserved
loop-edge-preserved c =
    let known = c.args.known.now in (
      c.in_ok-broken.ensures.lent ∙ c.loop-edge.invariant.0,
      λ functions f is.
          earliest_next (λ (e : EdgeFacts) (b : Broken). IsEdgeUncovered functions c.args.self.now.function.now f c.args.self.now.block.now c.args.self.now.line (with_known known e) b) c.args.edges.now _ c.edge-item.result _ _ _ c.loop-edge-test.true c.edge-item.is (c.loop-edge.invariant.1 functions f is)
          ((rw c.loop-edge.invariant.0 at c.in_ok-broken.ensures.fault) functions f is) c.lower-named.ensures,
    )

pub returns : goal.returns
returns c = λ functions f is.
    let known = c.args.known.now in
    earliest_known known (λ e b. IsEdgeUncovered functions c.args.self.now.function.now f c.args.self.now.block.now c.args.self.now.line e b) c.args.edges.now _
    (earliest_all (λ (e : EdgeFacts) (b : Broken). IsEdgeUncovered functions c.args.self.now.function.now f c.args.self.now.block.now c.args.self.now.line (with_known known e) b) c.args.edges.now _ _ c.loop-edge-test.false (c.loop-edge.invariant.1 functions f is))

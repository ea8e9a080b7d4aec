use Rattle.std.proofs.Common.{◌∙◌, ap}
use Rattle.std.proofs.lemmas.List.{take_all}
use Rattle.std.proofs.lemmas.Result.{IfOk-from_err}
use Rattle.ranges.specs.Edges.{edge_facts, all_edge_facts}
use Rattle.ranges.specs.Tables.{with_known}
use Rattle.ranges.proofs.Edges.{mapped_alike}
use Rattle.ranges.proofs.edge.all_edge_facts.Goals as goal

pub loop-edge-preserved : goal.loop-edge-preserved
loop-edge-preserved c = λ known. rw c.in_ok-push.ensures.items
    (mapped_alike (with_known known) (edge_facts c.args.blocks.now c.args.from known) c.loop-edge.list.items c.in_ok-edge_facts.field-0 c.args.edges.now c.loop-edge.edge-index c.edge-item.result c.loop-edge-test.true (c.loop-edge.invariant known)
    (c.in_ok-edge_facts.ensures known ∙ ap (edge_facts c.args.blocks.now c.args.from known) c.edge-item.is))

pub returns : goal.returns
returns c = λ known. c.loop-edge.invariant known ∙ ap (all_edge_facts c.args.blocks.now c.args.from known) (take_all c.loop-edge.edge-index c.args.edges.now c.loop-edge-test.false)

pub returns-in_err-edge_facts : goal.returns-in_err-edge_facts
returns-in_err-edge_facts c = IfOk-from_err c.from_residual.result _ c.from_residual.ensures.0

pub returns-in_err-push : goal.returns-in_err-push
returns-in_err-push c = IfOk-from_err c.from_residual-in_err-push.result _ c.from_residual-in_err-push.ensures.0

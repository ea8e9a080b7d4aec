use Rattle.std.proofs.Common.{◌≡◌, ◌∙◌}
use Rattle.std.proofs.lemmas.Result.{IfOk-from_err}
use Rattle.ranges.specs.Sums.{facts_of}
use Rattle.ranges.proofs.Edges.{edge_made_inside, edge_made_past}
use Rattle.ranges.proofs.edge.edge_facts.Goals as goal
use Rattle.ranges.proofs.edge.edge_facts.Goals.{in-Some+in_ok-moves-in-Some, in-None}

pub returns-in_err-push_facts : goal.returns-in_err-push_facts
returns-in_err-push_facts c = IfOk-from_err c.from_residual.result _ c.from_residual.ensures.0

pub returns-in_err-moves-in-Some : goal.returns-in_err-moves-in-Some
returns-in_err-moves-in-Some c = IfOk-from_err c.from_residual-in_err-moves-in-Some.result _ c.from_residual-in_err-moves-in-Some.ensures.0

pub returns : goal.returns
returns c = λ known.
    let e = c.args.edge.now in
    let made : c.from_vec.result ≡ facts_of e.sums = c.from_vec.ensures ∙ c.into_vec.ensures ∙ rw (c.new-facts.ensures, c.as_slice.ensures) at c.in_ok-push_facts.ensures in
    elim c.match-get.branch [
      | in-Some+in_ok-moves-in-Some w ↦
          let read = w.in-Some.ensures.lookup.3 in
          edge_made_inside c.args.blocks.now c.args.from known e c.match-get.moves c.from_vec.result w.in-Some.target.now read.0 read.1 (w.moves-is ∙ rw w.as_slice-in-Some.ensures at w.in_ok-moves-in-Some.ensures) made
      | in-None w ↦ edge_made_past c.args.blocks.now c.args.from known e c.match-get.moves c.from_vec.result w.in-None.ensures.lookup.3 (w.moves-is ∙ w.new-moves.ensures) made
    ]

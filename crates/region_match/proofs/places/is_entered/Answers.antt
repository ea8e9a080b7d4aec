use Rattle.std.proofs.Common.{◌≡◌, refl, sym, ◌∙◌}
use Rattle.std.specs.List.{Any}
use Rattle.std.proofs.lemmas.Bool.{true≢false, false≢true}
use Rattle.cfg.specs.declared.structure.Edge.{Edge}
use Rattle.cfg.specs.Paths.{edges_of}
use Rattle.region_match.proofs.Labelling.{edges_item}
use Rattle.region_match.proofs.PlaceFacts.{entered_more, not_entered}
use Rattle.region_match.proofs.places.is_entered.Goals as goal

pub returns-then-is_edge_among : goal.returns-then-is_edge_among
returns-then-is_edge_among c =
    let read = edges_item c.args.blocks.now c.loop-body.body-index c.body-item.result _ c.loop-body-test.true c.body-item.is c.as_slice.ensures in
    let any : Any (λ (e : Edge). (e.to.0 ≡ c.args.block) × (e.way ≡ c.args.way)) (edges_of c.args.blocks.now c.loop-body.body-index) = rw read (c.is_edge_among.ensures.0 c.if-is_edge_among.true) in
    (λ _. (c.loop-body.body-index, any), λ _. refl)

pub loop-body-preserved : goal.loop-body-preserved
loop-body-preserved c =
    entered_more c.args.blocks.now c.args.block c.loop-body.body-index c.args.way _ (edges_item c.args.blocks.now c.loop-body.body-index c.body-item.result _ c.loop-body-test.true c.body-item.is c.as_slice.ensures) c.loop-body.invariant
    (λ any. true≢false (sym (c.is_edge_among.ensures.1 any) ∙ c.if-is_edge_among.false))

pub returns : goal.returns
returns c = (λ h. absurd (false≢true h), λ has. absurd (not_entered c.args.blocks.now c.args.block _ c.args.way c.loop-body-test.false c.loop-body.invariant has))

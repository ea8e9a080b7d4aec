use Rattle.std.proofs.Common.{◌≡◌, refl, sym, ◌∙◌}
use Rattle.std.specs.List.{Any}
use Rattle.std.proofs.lemmas.Bool.{true≢false, false≢true}
use Rattle.cfg.specs.declared.structure.Edge.{Edge}
use Rattle.cfg.specs.declared.structure.Way.TheVariants.{Detached}
use Rattle.cfg.specs.Paths.{edges_of}
use Rattle.region_match.proofs.Labelling.{edges_item}
use Rattle.region_match.proofs.PlaceFacts.{shared_more, not_shared}
use Rattle.region_match.proofs.places.is_shared.Goals.{else-is_edge_among-via-then-is_edge_among+else-is_followed_by_another, else-is_edge_among-via-else-is_edge_among}
use Rattle.region_match.proofs.places.is_shared.Goals as goal

pub returns-then-is_followed_by_another : goal.returns-then-is_followed_by_another
returns-then-is_followed_by_another c =
    let read = edges_item c.args.blocks.now c.loop-one.one c.index-blocks-one.result _ c.loop-one-test.true c.index-blocks-one.is c.as_slice.ensures in
    let any : Any (λ (e : Edge). (e.to.0 ≡ c.args.block) × (e.way ≡ Detached)) (edges_of c.args.blocks.now c.loop-one.one) = rw read (c.is_edge_among.ensures.0 c.if-is_edge_among.true) in
    let has = c.is_followed_by_another.ensures.0 c.if-is_followed_by_another.true in
    (λ _. (c.loop-one.one, any, has.0, has.1, has.2), λ _. refl)

pub loop-one-preserved : goal.loop-one-preserved
loop-one-preserved c =
    shared_more c.args.blocks.now c.args.block c.loop-one.one _ (edges_item c.args.blocks.now c.loop-one.one c.index-blocks-one.result _ c.loop-one-test.true c.index-blocks-one.is c.as_slice.ensures) c.loop-one.invariant
    (λ any has. elim c.else-is_edge_among.branch [
      | else-is_edge_among-via-then-is_edge_among+else-is_followed_by_another w ↦ true≢false (sym (w.is_followed_by_another.ensures.1 has) ∙ w.if-is_followed_by_another.false)
      | else-is_edge_among-via-else-is_edge_among w ↦ true≢false (sym (c.is_edge_among.ensures.1 any) ∙ w.if-is_edge_among.false)
    ])

pub returns : goal.returns
returns c = (λ h. absurd (false≢true h), λ has. absurd (not_shared c.args.blocks.now c.args.block _ c.loop-one-test.false c.loop-one.invariant has))

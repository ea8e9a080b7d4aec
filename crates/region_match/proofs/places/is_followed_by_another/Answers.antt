use Rattle.std.proofs.Common.{◌≡◌, true, false, refl, sym, ◌∙◌}
use Rattle.std.proofs.lemmas.Bool.{true≢false, false≢true}
use Rattle.cfg.specs.Paths.{edges_of}
use Rattle.cfg.specs.Rules.{leads_to}
use Rattle.region_match.proofs.Labelling.{edges_item}
use Rattle.region_match.proofs.PlaceFacts.{followed_more, not_followed}
use Rattle.region_match.proofs.places.is_followed_by_another.Goals.{else-other-one-via-then-other-one+else-leads_to, else-other-one-via-else-other-one}
use Rattle.region_match.proofs.places.is_followed_by_another.Goals as goal

pub returns-then-leads_to : goal.returns-then-leads_to
returns-then-leads_to c =
    let leads : leads_to c.args.block (edges_of c.args.blocks.now c.loop-other.other) ≡ true = rw (edges_item c.args.blocks.now c.loop-other.other c.index-blocks-other.result _ c.loop-other-test.true c.index-blocks-other.is refl) (sym c.leads_to.ensures ∙ c.if-leads_to.true) in
    (λ _. (c.loop-other.other, c.if-other-one.true, leads), λ _. refl)

pub loop-other-preserved : goal.loop-other-preserved
loop-other-preserved c =
    followed_more c.args.blocks.now c.args.block c.args.one c.loop-other.other c.loop-other.invariant
    (λ ne p. elim c.else-other-one.branch [
      | else-other-one-via-then-other-one+else-leads_to w ↦
          let leads : leads_to c.args.block (edges_of c.args.blocks.now c.loop-other.other) ≡ false = rw (edges_item c.args.blocks.now c.loop-other.other c.index-blocks-other.result _ c.loop-other-test.true c.index-blocks-other.is refl) (sym w.leads_to.ensures ∙ w.if-leads_to.false) in
          true≢false (sym p ∙ leads)
      | else-other-one-via-else-other-one w ↦ ne w.if-other-one.false
    ])

pub returns : goal.returns
returns c = (λ h. absurd (false≢true h), λ has. absurd (not_followed _ _ _ _ c.loop-other-test.false c.loop-other.invariant has))

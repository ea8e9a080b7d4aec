use Rattle.std.proofs.Common.{◌≡◌, true, refl, sym, ◌∙◌, below_more, rules}
use Rattle.cfg.specs.Paths.{edges_of}
use Rattle.cfg.specs.Rules.{leads_to}
use Rattle.cfg.proofs.Matching.{no_predecessor}
use Rattle.cfg.proofs.Searching.{edges_item}
use Rattle.cfg.proofs.judge.is_followed.Goals as goal

pub returns-then-leads_to : goal.returns-then-leads_to
returns-then-leads_to c =
    let leads : leads_to c.args.block (edges_of c.args.blocks.now c.loop-body.body-index) ≡ true = rw (edges_item c.args.blocks.now c.loop-body.body-index c.body-item.result _ c.loop-body-test.true c.body-item.is refl) (sym c.leads_to.ensures ∙ c.if-leads_to.true) in
    (λ _. (c.loop-body.body-index, leads), λ _. search rules)

pub loop-body-preserved : goal.loop-body-preserved
loop-body-preserved c =
    below_more _ _ c.loop-body.invariant
    (rw (edges_item c.args.blocks.now c.loop-body.body-index c.body-item.result _ c.loop-body-test.true c.body-item.is refl) (sym c.leads_to.ensures ∙ c.if-leads_to.false))

pub returns : goal.returns
returns c = (λ h. search rules, λ has. absurd (no_predecessor _ _ _ c.loop-body.invariant c.loop-body-test.false has))

use Rattle.std.proofs.Common.{◌⊎◌}
use Rattle.refusal.specs.declared.broken.Broken.{Broken}
use Rattle.region_match.specs.Rules.{IsStartBroken, IsPhiBroken, IsFootBroken, IsLabelBroken}
use Rattle.refusal.proofs.Elements.{earliest_both}
use Rattle.region_match.proofs.PlaceFacts.{starts_named, phis_named, foot_named, label_named}
use Rattle.region_match.proofs.places.place_fault.Goals as goal

pub returns : goal.returns
returns c =
    let blocks = c.args.blocks.now in
    let b = c.args.index in
    let block = c.args.block.now in
    earliest_both (λ (x : Broken). IsStartBroken blocks b block.steps x ⊎ IsPhiBroken blocks b block.phis x) (λ (x : Broken). IsFootBroken blocks b block.foot x ⊎ IsLabelBroken blocks b block x) _ _ _
    (earliest_both (IsStartBroken blocks b block.steps) (IsPhiBroken blocks b block.phis) _ _ _
    (starts_named blocks b block.steps _ _ _ c.is_start_wrong.ensures c.is_entered-is_detached.ensures (rw c.as_slice.ensures at c.start_fault-at_starts.ensures))
    (phis_named blocks b block.phis _ _ _ _ c.is_either.ensures c.is_entered-is_detached.ensures c.is_entered-is_continued.ensures (rw c.as_slice-2.ensures at c.phi_fault-at_phis.ensures))
    c.lower.ensures)
    (earliest_both (IsFootBroken blocks b block.foot) (IsLabelBroken blocks b block) _ _ _
    (foot_named blocks b block.foot _ _ c.is_entered-is_detached.ensures (rw c.as_slice-3.ensures at c.foot_fault-at_foot.ensures))
    (label_named blocks b block _ _ c.is_shared.ensures c.named_at-at_label.ensures)
    c.lower-2.ensures)
    c.lower-3.ensures

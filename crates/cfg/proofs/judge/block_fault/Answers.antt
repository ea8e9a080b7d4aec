use Rattle.std.proofs.Common.{◌⊎◌}
use Rattle.std.specs.Option.{IsSome}
use Rattle.refusal.specs.declared.broken.Broken.{Broken}
use Rattle.cfg.specs.Rules.{ArePhisMatched, IsPhiBroken, IsLabelRight, IsLabelBroken, IsEndBroken}
use Rattle.refusal.proofs.Judging.{judged_lower, judged_same}
use Rattle.cfg.proofs.judge.block_fault.Goals as goal

pub returns : goal.returns
returns c =
    let blocks = c.args.blocks.now in
    let b = c.args.index in
    let block = c.args.block.now in
    judged_same (ArePhisMatched blocks b block.phis × (IsLabelRight blocks b × IsSome block.ending)) _ _ _ _ (λ s. (s.0, s.1.0, s.1.1)) (λ x p. p) (λ x p. p)
    (judged_lower (ArePhisMatched blocks b block.phis) (IsLabelRight blocks b × IsSome block.ending) (IsPhiBroken blocks b block.phis) (λ (x : Broken). IsLabelBroken blocks b block.line x ⊎ IsEndBroken block x) _ _ _ (rw c.as_slice.ensures at c.in_ok-at_phis.ensures)
    (judged_lower (IsLabelRight blocks b) (IsSome block.ending) (IsLabelBroken blocks b block.line) (IsEndBroken block) _ _ _ c.label_fault-at_label.ensures c.ending_fault-at_end.ensures c.lower.ensures)
    c.lower-2.ensures)

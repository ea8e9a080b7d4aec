use Rattle.std.proofs.Common.{◌≡◌, ◌∙◌, Bool, false, ap, subst}
use Rattle.refusal.specs.declared.broken.Broken.{Broken}
use Rattle.refusal.specs.Earliest.{IsEarliest}
use Rattle.ranges.specs.Tables.{with_known}
use Rattle.footprints.specs.Footprints.{passes_on}
use Rattle.footprints.proofs.judge.edge_fault.Goals as goal

pub returns-clause-fault : goal.returns-clause-fault
returns-clause-fault c =
    let ending = c.args.ending.now in
    let passed = c.in_ok-passed.ensures.passed ∙ ap (λ p. passes_on c.args.blocks.now p ending.terminator (with_known c.args.facts.now.0 c.args.edge.now)) c.as_slice-pending.ensures in
    subst (λ (x : Bool). IsEarliest (λ (b : Broken). (b.number ≡ 603) × (b.line ≡ ending.line) × (x ≡ false)) c.fault_unless.result) passed c.fault_unless.ensures

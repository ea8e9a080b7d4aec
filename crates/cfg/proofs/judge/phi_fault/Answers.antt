use Rattle.std.proofs.Common.{◌↔◌, IsTrue, take_all}
use Rattle.program.specs.declared.instruction.Phi.{Phi}
use Rattle.cfg.specs.Rules.{IsMatched, IsUnmatched}
use Rattle.refusal.proofs.Judging.{judged_next}
use Rattle.cfg.proofs.Matching.{phi_matched, phi_judged, phi_refused}
use Rattle.cfg.proofs.judge.phi_fault.Goals.{then-branch, else-branch}
use Rattle.cfg.proofs.judge.phi_fault.Goals as goal

pub loop-phi-preserved : goal.loop-phi-preserved
loop-phi-preserved c =
    let blocks = c.args.blocks.now in
    let phi = c.phi-item.result in
    let exact : IsTrue c.in_ok-is_matched.field-0 ↔ IsMatched blocks c.args.block phi.entries = phi_matched blocks c.args.block phi _ _ _ c.in_ok-leading.ensures c.as_slice.ensures (rw c.deref.ensures.value at c.in_ok-is_matched.ensures) in
    judged_next (λ (x : Phi). IsMatched blocks c.args.block x.entries) (IsUnmatched blocks c.args.block) c.args.phis.now _ phi _ _ _ c.loop-phi-test.true c.phi-item.is c.loop-phi.invariant
    (elim c.if-branch.branch [
      | then-branch w ↦ rw w.broken-is (phi_judged blocks c.args.block phi _ exact w.if-branch.true)
      | else-branch w ↦ rw w.broken-is (phi_refused blocks c.args.block phi _ exact w.if-branch.false)
    ])
    c.lower-named.ensures

pub returns : goal.returns
returns c = rw (take_all c.loop-phi.phi-index c.args.phis.now c.loop-phi-test.false) at c.loop-phi.invariant

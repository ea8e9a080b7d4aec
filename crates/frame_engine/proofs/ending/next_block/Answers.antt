use Rattle.std.proofs.Common.{◌≡◌, ap, sym, ◌∙◌, of_z, to_z, w64, pos}
use Rattle.frame_engine.proofs.Bits.{written}
use Rattle.semantics.specs.Effect.{case_for}
use Rattle.frame_engine.proofs.Branches.{branch_true, branch_false, switch_goes, switch_edge}
use Rattle.frame_engine.proofs.ending.next_block.Goals as goal

pub returns-then-register-ne0-clause-goes : goal.returns-then-register-ne0-clause-goes
returns-then-register-ne0-clause-goes c = λ prog l p f s tf.
    rw c.in-Branch.is (branch_true prog l p f c.args.regs.now c.in-Branch.condition c.in-Branch.when_true c.in-Branch.when_false c.register.result s (rw c.in-Branch.is at tf) c.register.ensures (λ e. c.if-register-ne0.true (ap (of_z w64) e)))

pub returns-else-register-ne0-clause-goes : goal.returns-else-register-ne0-clause-goes
returns-else-register-ne0-clause-goes c = λ prog l p f s tf.
    let zero : c.register.result ≡ pos 0 = sym (written c.register.result c.register.type_inv) ∙ ap (to_z w64) c.if-register-ne0.false in
    rw c.in-Branch.is (branch_false prog l p f c.args.regs.now c.in-Branch.condition c.in-Branch.when_true c.in-Branch.when_false c.register.result s (rw c.in-Branch.is at tf) c.register.ensures zero)

pub returns-in-Switch-clause-goes : goal.returns-in-Switch-clause-goes
returns-in-Switch-clause-goes c = λ prog l p f s tf.
    let i = c.in-Switch in
    let x = c.word.result in
    let is : c.chosen.result.0 ≡ case_for (to_z w64 (of_z w64 x)) i.default.0 i.cases = c.chosen.ensures ∙ ap (case_for (to_z w64 (of_z w64 x)) i.default.0) c.as_slice.ensures in
    rw i.is (switch_goes prog l p f c.args.regs.now i.width i.value i.default i.cases x _ c.chosen.result s (rw i.is at tf) c.word.ensures (written x c.word.type_inv) is)

pub returns-in-Switch-clause-edge : goal.returns-in-Switch-clause-edge
returns-in-Switch-clause-edge c = λ n moves from blocks fits.
    let i = c.in-Switch in
    let x = c.word.result in
    let is : c.chosen.result.0 ≡ case_for (to_z w64 (of_z w64 x)) i.default.0 i.cases = c.chosen.ensures ∙ ap (case_for (to_z w64 (of_z w64 x)) i.default.0) c.as_slice.ensures in
    switch_edge n moves from blocks i.width i.value i.default i.cases _ c.chosen.result (rw i.is at fits) is

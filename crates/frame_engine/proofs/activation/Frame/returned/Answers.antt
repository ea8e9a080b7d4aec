use Rattle.std.proofs.Common.{◌≡◌, ◌∙◌, ap, sym, refl, subst, ℤ, Some}
use Rattle.frame_engine.proofs.Bits.{written}
use Rattle.semantics.specs.Effect.{Return, terminator_action}
use Rattle.semantics.specs.Frames.{word_at}
use Rattle.program.specs.declared.instruction.Terminator.TheVariants as terminator
use Rattle.frame_engine.proofs.Passing.{gives_back, number_back}
use Rattle.frame_engine.specs.Shows.{ShowsRegisters}
use Rattle.frame_engine.proofs.activation.Frame.returned.Goals as goal

pub returns-in-Some : goal.returns-in-Some
returns-in-Some c = λ prog l places p g v s act.
    let a = c.in-Some.operand in
    let same : terminator_action prog p g (terminator.Return (Some a)) ≡ Return v = ap (λ o. terminator_action prog p g (terminator.Return o)) (sym c.in-Some.is) ∙ act in
    ap (λ (z : ℤ). Some z) (written c.word.result c.word.type_inv) ∙
    number_back l c.as_slice.result.now g a c.word.result v (subst (ShowsRegisters l g.registers) (sym c.as_slice.ensures.value) s.registers) c.word.ensures (word_at g.registers a) refl same

pub returns-in-None : goal.returns-in-None
returns-in-None c = λ prog l places p g v s act.
    gives_back g g.role _ v (ap (λ o. terminator_action prog p g (terminator.Return o)) (sym c.in-None.is) ∙ act)

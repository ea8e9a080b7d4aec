use Rattle.std.proofs.lemmas.Result.{err_from_is_err_and}
use Rattle.ir_annotation.proofs.Adding.{fails_term, ends_term, next_turn}
use Rattle.ir_annotation.proofs.forms.read_sum.Goals as goal

pub terms-preserved : goal.terms-preserved
terms-preserved c = next_turn _ _ _ _ _ _ _ _ _ c.terms.invariant c.term_length-end.ensures.value c.in_ok-term.ensures.value c.in_ok-term.ensures.small c.in_ok-add.ensures c.in-Some.ensures.some

pub returns-in_err-term : goal.returns-in_err-term
returns-in_err-term c =
    let p = err_from_is_err_and c.from_residual.result c.from_residual.ensures.1 in
    rw (p.1, p.2) (fails_term _ _ _ _ _ _ _ c.terms.invariant c.term_length-end.ensures.value c.in_err-term.ensures.value)

pub returns-in-None : goal.returns-in-None
returns-in-None c = ends_term _ _ _ _ _ _ _ c.terms.invariant c.term_length-end.ensures.value c.in_ok-term.ensures.value c.in-None.ensures.none c.in_ok-add.ensures

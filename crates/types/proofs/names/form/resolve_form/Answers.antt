use Rattle.std.proofs.lemmas.Result.{err_from_is_err_and}
use Rattle.types.specs.names.Form.{ordered_form}
use Rattle.types.proofs.names.Giving.{bad}
use Rattle.types.proofs.names.Kept.{ruled_gives}
use Rattle.types.proofs.names.form.resolve_form.Goals as goal

pub returns-in_err-terms : goal.returns-in_err-terms
returns-in_err-terms c =
    let p = err_from_is_err_and c.from_residual.result c.from_residual.ensures.1 in
    rw (p.1, p.2) (bad (λ q. ordered_form c.args.line q.0 c.args.form.now.constant) c.both_answers.result _ c.in_err-terms.field-0.0 c.in_err-terms.was
    (ruled_gives c.terms-terms.result _ c.keeps_limits-within.result _ c.form_limit.result _ c.unless.result c.told.result c.both_answers.result c.keeps_limits-within.ensures c.form_limit.ensures c.unless.ensures c.told.ensures c.both_answers.ensures
    (rw c.as_slice.ensures at c.terms-terms.ensures)))

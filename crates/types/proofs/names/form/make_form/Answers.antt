use Rattle.std.proofs.Common.{w64}
use Rattle.std.proofs.lemmas.Int.{to_z-of_z}
use Rattle.std.proofs.lemmas.Result.{err_from_is_err_and}
use Rattle.types.proofs.names.Ordered.{goes_on, stops}
use Rattle.types.proofs.names.form.make_form.Goals as goal

pub returns-in_err-form : goal.returns-in_err-form
returns-in_err-form c =
    let p = err_from_is_err_and c.from_residual.result c.from_residual.ensures.1 in
    let so_far = rw (to_z-of_z w64 c.args.constant c.ranges.constant) at c.loop-term.invariant in
    rw (p.1, p.2) (stops c.args.line c.loop-term.form c.args.terms.now c.loop-term.term-index _ _ c.loop-term-test.true so_far c.in_err-form.ensures)

pub loop-term-preserved : goal.loop-term-preserved
loop-term-preserved c = goes_on c.args.line c.loop-term.form c.in_ok-form.form c.args.terms.now c.loop-term.term-index _ c.loop-term-test.true c.loop-term.invariant c.in_ok-form.ensures

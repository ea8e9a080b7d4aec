use Rattle.std.proofs.Common.{ap, ◌∙◌}
use Rattle.types.specs.names.Form.{inequalities_of}
use Rattle.types.specs.Function.{result_register}
use Rattle.std.proofs.lemmas.Result.{err_from_is_err_and}
use Rattle.types.specs.declared.names.form.AnnotationPlace.TheVariants as place
use Rattle.types.proofs.names.Giving.{gives_from, good, bad_made}
use Rattle.types.proofs.Heads.{four_give}
use Rattle.types.proofs.function.resolve_head.Goals as goal

pub returns-in_err-requirements : goal.returns-in_err-requirements
returns-in_err-requirements c =
    let p = err_from_is_err_and c.from_residual.result c.from_residual.ensures.1 in
    rw (p.1, p.2) (bad_made _ c.both_answers-3.result _ c.in_err-requirements.field-0.0 c.in_err-requirements.was (
    let items = c.args.world.now.items.now in
    let scope = c.args.layout.now.scope in
    let register = c.result_register.ensures ∙ ap (result_register c.args.result_type) c.len.ensures in
    four_give _ _ _ _ _ _ _ _ c.both_answers.result c.both_answers-2.result c.both_answers-3.result c.both_answers.ensures c.both_answers-2.ensures c.both_answers-3.ensures
    (gives_from (inequalities_of scope place.Head) c.resolve_inequalities-requirements.result c.as_slice-requirements.result.now c.args.notes.now.requirements c.as_slice-requirements.ensures c.resolve_inequalities-requirements.ensures)
    (gives_from (λ r. inequalities_of scope (place.Guarantee r) c.args.notes.now.guarantees) c.resolve_inequalities-guarantees.result c.result_register.result _ register
    (gives_from (inequalities_of scope (place.Guarantee c.result_register.result)) c.resolve_inequalities-guarantees.result c.as_slice.result.now c.args.notes.now.guarantees c.as_slice.ensures c.resolve_inequalities-guarantees.ensures))
    c.resolve_head_zones-zones.ensures c.resolve_measure-measure.ensures))

pub returns : goal.returns
returns c =
    good _ c.both_answers-3.result _ _ c.in_ok-requirements.was (
    let items = c.args.world.now.items.now in
    let scope = c.args.layout.now.scope in
    let register = c.result_register.ensures ∙ ap (result_register c.args.result_type) c.len.ensures in
    four_give _ _ _ _ _ _ _ _ c.both_answers.result c.both_answers-2.result c.both_answers-3.result c.both_answers.ensures c.both_answers-2.ensures c.both_answers-3.ensures
    (gives_from (inequalities_of scope place.Head) c.resolve_inequalities-requirements.result c.as_slice-requirements.result.now c.args.notes.now.requirements c.as_slice-requirements.ensures c.resolve_inequalities-requirements.ensures)
    (gives_from (λ r. inequalities_of scope (place.Guarantee r) c.args.notes.now.guarantees) c.resolve_inequalities-guarantees.result c.result_register.result _ register
    (gives_from (inequalities_of scope (place.Guarantee c.result_register.result)) c.resolve_inequalities-guarantees.result c.as_slice.result.now c.args.notes.now.guarantees c.as_slice.ensures c.resolve_inequalities-guarantees.ensures))
    c.resolve_head_zones-zones.ensures c.resolve_measure-measure.ensures)

use Rattle.types.specs.names.Form.{inequalities_of}
use Rattle.types.specs.names.Note.{all_pending_of, zones_of}
use Rattle.std.proofs.lemmas.Result.{err_from_is_err_and}
use Rattle.types.specs.declared.names.form.AnnotationPlace.TheVariants as place
use Rattle.types.proofs.names.Giving.{gives_from, good, bad_made}
use Rattle.types.proofs.Heads.{four_give}
use Rattle.types.proofs.block.resolve_head.Goals as goal

pub returns-in_err-keeps : goal.returns-in_err-keeps
returns-in_err-keeps c =
    let p = err_from_is_err_and c.from_residual.result c.from_residual.ensures.1 in
    rw (p.1, p.2) (bad_made _ c.both_answers-3.result _ c.in_err-keeps.field-0.0 c.in_err-keeps.was (
    let items = c.args.context.now.world.items.now in
    let scope = c.args.context.now.scope.now in
    let block = c.args.block in
    four_give _ _ _ _ _ _ _ _ c.both_answers.result c.both_answers-2.result c.both_answers-3.result c.both_answers.ensures c.both_answers-2.ensures c.both_answers-3.ensures
    (gives_from (inequalities_of scope (place.Start block)) c.resolve_inequalities-keeps.result c.as_slice.result.now c.args.notes.now.keeps c.as_slice.ensures c.resolve_inequalities-keeps.ensures)
    (gives_from (all_pending_of items scope block) c.resolve_all_pending-pending.result c.as_slice-2.result.now c.args.notes.now.pending c.as_slice-2.ensures c.resolve_all_pending-pending.ensures)
    c.resolve_left-left.ensures
    (gives_from (zones_of items scope place.Body) c.resolve_first_zones-foot.result c.as_slice-foot.result.now c.args.notes.now.foot c.as_slice-foot.ensures c.resolve_first_zones-foot.ensures)))

pub returns : goal.returns
returns c =
    good _ c.both_answers-3.result _ _ c.in_ok-keeps.was (
    let items = c.args.context.now.world.items.now in
    let scope = c.args.context.now.scope.now in
    let block = c.args.block in
    four_give _ _ _ _ _ _ _ _ c.both_answers.result c.both_answers-2.result c.both_answers-3.result c.both_answers.ensures c.both_answers-2.ensures c.both_answers-3.ensures
    (gives_from (inequalities_of scope (place.Start block)) c.resolve_inequalities-keeps.result c.as_slice.result.now c.args.notes.now.keeps c.as_slice.ensures c.resolve_inequalities-keeps.ensures)
    (gives_from (all_pending_of items scope block) c.resolve_all_pending-pending.result c.as_slice-2.result.now c.args.notes.now.pending c.as_slice-2.ensures c.resolve_all_pending-pending.ensures)
    c.resolve_left-left.ensures
    (gives_from (zones_of items scope place.Body) c.resolve_first_zones-foot.result c.as_slice-foot.result.now c.args.notes.now.foot c.as_slice-foot.ensures c.resolve_first_zones-foot.ensures))

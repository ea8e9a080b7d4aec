use Rattle.std.proofs.Common.{◌∙◌, map, ap}
use Rattle.std.proofs.lemmas.List.{take_all}
use Rattle.std.proofs.lemmas.Result.{IfOk-from_err}
use Rattle.program.specs.declared.annotation.Pending.{Pending}
use Rattle.footprints_zones.proofs.Numbers.{pending_more, measured_more}
use Rattle.footprints_zones.proofs.measured.measured_pending.Goals as goal

pub loop-item-preserved : goal.loop-item-preserved
loop-item-preserved c = rw c.in_ok-push.ensures.items (
  pending_more c.loop-item.all.items c.measured.result c.args.pending.now c.loop-item.item-index c.item-item.result c.loop-item-test.true c.loop-item.invariant.0
      (c.measured.ensures.zone ∙ ap (λ (q : Pending). q.zone) c.item-item.is),
  λ facts bounded. measured_more facts c.loop-item.all.items c.measured.result (c.loop-item.invariant.1 facts bounded) (c.measured.ensures.ends facts bounded),
)

pub returns-clause-zones : goal.returns-clause-zones
returns-clause-zones c = c.loop-item.invariant.0 ∙ ap (map (λ (q : Pending). q.zone)) (take_all c.loop-item.item-index c.args.pending.now c.loop-item-test.false)

pub returns-clause-ends : goal.returns-clause-ends
returns-clause-ends c = c.loop-item.invariant.1

pub returns-in_err-push-clause-zones : goal.returns-in_err-push-clause-zones
returns-in_err-push-clause-zones c = IfOk-from_err c.from_residual.result _ c.from_residual.ensures.0

pub returns-in_err-push-clause-ends : goal.returns-in_err-push-clause-ends
returns-in_err-push-clause-ends c = λ facts _. IfOk-from_err c.from_residual.result _ c.from_residual.ensures.0

use Rattle.std.proofs.lemmas.Result.{IfOk-from_err}
use Rattle.footprints.proofs.Callees.{zones_use_next}
use Rattle.footprints.proofs.touch.zones_use.Goals as goal

pub loop-zone-preserved : goal.loop-zone-preserved
loop-zone-preserved c =
    zones_use_next c.args.place.now c.args.arguments.now c.as_slice-zones.result.now c.loop-zone.zone-index c.zone-item.result c.loop-zone.all c.in_ok-one.one c.joined_use-all.result c.loop-zone-test.true c.zone-item.is c.loop-zone.invariant c.in_ok-one.ensures
    c.joined_use-all.ensures

pub returns-in_err-one : goal.returns-in_err-one
returns-in_err-one c = IfOk-from_err c.from_residual-in_err-one.result _ c.from_residual-in_err-one.ensures.0

pub returns-in_err-moves : goal.returns-in_err-moves
returns-in_err-moves c = IfOk-from_err c.from_residual.result _ c.from_residual.ensures.0

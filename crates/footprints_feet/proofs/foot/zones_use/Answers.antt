use Rattle.std.proofs.lemmas.Result.{IfOk-from_err}
use Rattle.footprints_feet.proofs.Zones.{foot_use_next}
use Rattle.footprints_feet.proofs.foot.zones_use.Goals as goal

pub loop-zone-preserved : goal.loop-zone-preserved
loop-zone-preserved c =
    foot_use_next c.args.place.now c.args.foot.now c.loop-zone.zone-index c.zone-item.result c.loop-zone.all c.in_ok-one.one c.joined_use-all.result c.loop-zone-test.true c.zone-item.is c.loop-zone.invariant
    (rw (c.as_written.ensures.object, c.as_written.ensures.moves, c.as_written.ensures.zone) at c.in_ok-one.ensures) c.joined_use-all.ensures

pub returns-in_err-one : goal.returns-in_err-one
returns-in_err-one c = IfOk-from_err c.from_residual.result _ c.from_residual.ensures.0

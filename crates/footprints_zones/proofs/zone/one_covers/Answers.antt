use Rattle.std.proofs.lemmas.Result.{IfOk-from_err}
use Rattle.program.specs.declared.annotation.Zone.{Zone}
use Rattle.footprints_zones.specs.Zones.{span, as_written, covers}
use Rattle.footprints_zones.proofs.Numbers.{none_next, one_found, none_found}
use Rattle.footprints_zones.proofs.zone.one_covers.Goals as goal

pub returns-in_err-covers : goal.returns-in_err-covers
returns-in_err-covers c = IfOk-from_err c.from_residual.result _ c.from_residual.ensures.0

pub loop-zone-preserved : goal.loop-zone-preserved
loop-zone-preserved c = none_next (λ (z : Zone). covers c.args.facts.now (as_written z) (span c.args.y.now.object c.args.y.now.moves.now c.args.y.now.zone.now)) c.args.zones.now c.loop-zone.zone-index c.zone-item.result c.in_ok-covers.field-0 c.loop-zone-test.true c.zone-item.is c.in_ok-covers.ensures c.if-branch.false c.loop-zone.invariant

pub returns-then-branch : goal.returns-then-branch
returns-then-branch c = one_found (λ (z : Zone). covers c.args.facts.now (as_written z) (span c.args.y.now.object c.args.y.now.moves.now c.args.y.now.zone.now)) c.args.zones.now c.loop-zone.zone-index c.zone-item.result c.in_ok-covers.field-0 c.loop-zone-test.true c.zone-item.is c.in_ok-covers.ensures c.if-branch.true

pub returns : goal.returns
returns c = none_found (λ (z : Zone). covers c.args.facts.now (as_written z) (span c.args.y.now.object c.args.y.now.moves.now c.args.y.now.zone.now)) c.args.zones.now c.loop-zone.zone-index c.loop-zone-test.false c.loop-zone.invariant

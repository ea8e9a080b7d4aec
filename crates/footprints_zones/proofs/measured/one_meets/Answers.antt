use Rattle.std.proofs.Common.{sym, subst}
use Rattle.std.proofs.lemmas.Result.{IfOk-from_err}
use Rattle.footprints_zones.specs.declared.measured.MeasuredZone.{MeasuredZone}
use Rattle.footprints_zones.specs.Zones.{span, as_written}
use Rattle.footprints_zones.specs.Meets.{meets}
use Rattle.footprints_zones.specs.Ends.{IsMeasured}
use Rattle.footprints_zones.proofs.Numbers.{none_next, one_found, none_found}
use Rattle.footprints_zones.proofs.measured.one_meets.Goals as goal

pub returns-in_err-meets_measured : goal.returns-in_err-meets_measured
returns-in_err-meets_measured c = IfOk-from_err c.from_residual.result _ c.from_residual.ensures.0

pub loop-zone-preserved : goal.loop-zone-preserved
loop-zone-preserved c =
    none_next (λ (m : MeasuredZone). meets c.args.facts.now (as_written m.zone.now) (span c.args.y.now.object c.args.y.now.moves.now c.args.y.now.zone.now)) c.args.zones.now c.loop-zone.zone-index c.zone-item.result c.in_ok-meets_measured.field-0 c.loop-zone-test.true c.zone-item.is
    c.in_ok-meets_measured.ensures c.if-branch.false c.loop-zone.invariant

pub returns-then-branch : goal.returns-then-branch
returns-then-branch c =
    one_found (λ (m : MeasuredZone). meets c.args.facts.now (as_written m.zone.now) (span c.args.y.now.object c.args.y.now.moves.now c.args.y.now.zone.now)) c.args.zones.now c.loop-zone.zone-index c.zone-item.result c.in_ok-meets_measured.field-0 c.loop-zone-test.true c.zone-item.is
    c.in_ok-meets_measured.ensures c.if-branch.true

pub returns : goal.returns
returns c = none_found (λ (m : MeasuredZone). meets c.args.facts.now (as_written m.zone.now) (span c.args.y.now.object c.args.y.now.moves.now c.args.y.now.zone.now)) c.args.zones.now c.loop-zone.zone-index c.loop-zone-test.false c.loop-zone.invariant

pub meets_measured-requires-clause-zone : goal.meets_measured-requires-clause-zone
meets_measured-requires-clause-zone c = subst (IsMeasured c.args.facts.now) (sym c.zone-item.is) (c.requires.zones c.loop-zone.zone-index c.zone-item.result c.loop-zone-test.true)

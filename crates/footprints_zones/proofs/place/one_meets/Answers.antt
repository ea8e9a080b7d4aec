use Rattle.std.proofs.lemmas.Result.{IfOk-from_err}
use Rattle.program.specs.declared.annotation.Pending.{Pending}
use Rattle.footprints_zones.specs.Zones.{span, as_written}
use Rattle.footprints_zones.specs.Meets.{meets}
use Rattle.footprints_zones.proofs.Numbers.{none_next, one_found, none_found}
use Rattle.footprints_zones.proofs.place.one_meets.Goals as goal

pub returns-in_err-meets : goal.returns-in_err-meets
returns-in_err-meets c = IfOk-from_err c.from_residual.result _ c.from_residual.ensures.0

pub loop-item-preserved : goal.loop-item-preserved
loop-item-preserved c = none_next (λ (q : Pending). meets c.args.facts.now (as_written q.zone) (span c.args.y.now.object c.args.y.now.moves.now c.args.y.now.zone.now)) c.args.pending.now c.loop-item.item-index c.item-item.result c.in_ok-meets.field-0 c.loop-item-test.true c.item-item.is (rw (c.as_written.ensures.object, c.as_written.ensures.moves, c.as_written.ensures.zone) at c.in_ok-meets.ensures) c.if-branch.false c.loop-item.invariant

pub returns-then-branch : goal.returns-then-branch
returns-then-branch c = one_found (λ (q : Pending). meets c.args.facts.now (as_written q.zone) (span c.args.y.now.object c.args.y.now.moves.now c.args.y.now.zone.now)) c.args.pending.now c.loop-item.item-index c.item-item.result c.in_ok-meets.field-0 c.loop-item-test.true c.item-item.is (rw (c.as_written.ensures.object, c.as_written.ensures.moves, c.as_written.ensures.zone) at c.in_ok-meets.ensures) c.if-branch.true

pub returns : goal.returns
returns c = none_found (λ (q : Pending). meets c.args.facts.now (as_written q.zone) (span c.args.y.now.object c.args.y.now.moves.now c.args.y.now.zone.now)) c.args.pending.now c.loop-item.item-index c.loop-item-test.false c.loop-item.invariant

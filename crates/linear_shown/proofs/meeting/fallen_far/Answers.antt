use Rattle.std.proofs.Common.{pos, ◌<◌, ◌-◌, length, arith}
use Rattle.linear_shown.specs.declared.index.Entry.{Entry}
use Rattle.linear_shown.proofs.Passing.{above_from}
use Rattle.linear_shown.proofs.meeting.fallen_far.Goals as goal

abbrev none : Entry
none = record { key = 0; constant = pos 0; place = 0 }

pub loop-step-preserved-then-total-times : goal.loop-step-preserved-then-total-times
loop-step-preserved-then-total-times c =
    let es = c.args.entries.now in
    let at = c.loop-step.count - c.loop-step.step in
    let within : at < length es = omega (arith, c.if-step-count.true, c.loop-step-test.true, c.loop-step.invariant.0, c.requires.upto) in (
      omega (arith, c.loop-step.invariant.0),
      omega (arith, c.if-step-count.true, c.loop-step.invariant.0, c.loop-step.invariant.1),
      λ k d le l. above_from es c.args.b c.args.beside c.args.total at none c.requires.order.sorted within (omega (arith, c.if-total-times.true, c.times.ensures.value)) k d le (omega (arith, l, c.requires.upto)),
    )

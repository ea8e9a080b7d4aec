use Rattle.std.proofs.Common.{pos, ◌<◌, ◌+◌, ◌-◌, length, arith}
use Rattle.linear_shown.specs.declared.index.Entry.{Entry}
use Rattle.linear_shown.proofs.Passing.{below_up_to}
use Rattle.linear_shown.proofs.meeting.risen_far.Goals as goal

abbrev none : Entry
none = record { key = 0; constant = pos 0; place = 0 }

pub loop-step-preserved-then-is_low : goal.loop-step-preserved-then-is_low
loop-step-preserved-then-is_low c =
    let es = c.args.entries.now in
    let last = c.loop-step.place + c.loop-step.step - 1 in
    let within : last < length es = c.is_low.ensures.there c.if-is_low.true in (
      omega (arith, c.loop-step.invariant.0),
      omega (arith, c.if-step-entries.true, c.loop-step.invariant.1),
      omega (arith, c.loop-step.invariant.2),
      λ k d le l. below_up_to es c.args.a c.args.beside c.args.total last none c.requires.order.sorted within (c.is_low.ensures.low none c.if-is_low.true) k d (omega (arith, l)),
      λ d e l. absurd (omega (arith, e, c.loop-step-test.true)),
    )

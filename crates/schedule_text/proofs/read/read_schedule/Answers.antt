use Rattle.schedule_text.proofs.Progress.{too_long, one_more_line, less_left}
use Rattle.schedule_text.proofs.read.read_schedule.Goals as goal

pub returns-then-is_over-clause-fault : goal.returns-then-is_over-clause-fault
returns-then-is_over-clause-fault c =
    let next = rw c.in-Some.is at c.in_ok-next_line.ensures.some in
    too_long c.args.text.now c.loop-rest.rest.now c.loop-rest.before c.loop-rest.number c.loop-rest.events.items c.in-Some.line c.in-Some.after.now c.loop-rest.invariant next
    (rw c.as_slice.ensures.value at (c.is_over.ensures.over c.if-is_over.true))

pub loop-rest-preserved : goal.loop-rest-preserved
loop-rest-preserved c =
    let next = rw c.in-Some.is at c.in_ok-next_line.ensures.some in
    let more = one_more_line c.args.text.now c.loop-rest.rest.now c.loop-rest.before c.loop-rest.number c.loop-rest.events.items c.in-Some.line c.in-Some.after.now c.loop-rest.invariant next
    (rw c.as_slice.ensures.value at (c.is_over.ensures.within c.if-is_over.false)) in
    rw (c.stepper-before.ensures, c.in_ok-put-in-Some.ensures) more

pub loop-rest-smaller : goal.loop-rest-smaller
loop-rest-smaller c = less_left _ _ _ _ (rw c.in-Some.is at c.in_ok-next_line.ensures.some)

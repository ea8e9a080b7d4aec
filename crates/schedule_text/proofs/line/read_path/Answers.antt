use Rattle.schedule_text.proofs.Children.{child_shorter, one_more, all_read, some_left, none_left}
use Rattle.schedule_text.proofs.line.read_path.Goals as goal

pub returns-in-None-clause-none : goal.returns-in-None-clause-none
returns-in-None-clause-none c = none_left c.args.text.now c.loop-rest.rest.now c.loop-rest.numbers.items c.loop-rest.invariant (some_left c.loop-rest.rest.now c.loop-rest-test.ensures) c.in-None.ensures.none

pub loop-rest-preserved : goal.loop-rest-preserved
loop-rest-preserved c = rw c.in_ok-push-in-Some.ensures.items (one_more c.args.text.now c.loop-rest.rest.now c.loop-rest.numbers.items c.in-Some.number c.in-Some.after.now c.loop-rest.invariant c.in-Some.ensures.some)

pub returns-clause-some : goal.returns-clause-some
returns-clause-some c = rw c.from_vec.ensures (all_read c.args.text.now c.loop-rest.rest.now c.loop-rest.numbers.items c.loop-rest.invariant c.loop-rest-test.ensures)

pub loop-rest-smaller : goal.loop-rest-smaller
loop-rest-smaller c = child_shorter c.loop-rest.rest.now c.in-Some.number c.in-Some.after.now c.in-Some.ensures.some

use Rattle.std.specs.Prelude.{string_bytes}
use Rattle.schedule_text.proofs.Printed.{some_events, more_printed, all_printed}
use Rattle.schedule_text.proofs.print.printed.Goals as goal

pub loop-rest-preserved : goal.loop-rest-preserved
loop-rest-preserved c = λ whole is.
    let more = more_printed whole (string_bytes c.loop-rest.text) c.loop-rest.rest.now c.index-rest-0.result (c.loop-rest.invariant whole is) (some_events c.loop-rest.rest.now c.loop-rest-test.ensures) c.index-rest-0.is in
    rw (c.in_ok-count.ensures.text, c.split_at.ensures.back, c.in_ok-count.ensures.count) more

pub returns : goal.returns
returns c = λ other is. all_printed other (string_bytes c.loop-rest.text) c.loop-rest.rest.now (c.loop-rest.invariant other is) c.loop-rest-test.ensures

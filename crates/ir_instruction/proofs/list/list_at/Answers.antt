use Rattle.std.proofs.Common.{length, sym}
use Rattle.std.proofs.lemmas.Result.{err_from_is_err_and}
use Rattle.ir_instruction.specs.Lists.{list_at}
use Rattle.ir_instruction.proofs.ListLoop.{goes_on, stops, ends, runs_out}
use Rattle.ir_instruction.proofs.list.list_at.Goals as goal

pub returns-in_err-element : goal.returns-in_err-element
returns-in_err-element g c =
    let p = err_from_is_err_and c.from_residual.result c.from_residual.ensures.1 in
    rw (p.1, p.2) (ends c.in_err-element.field-0.0 g.T.Listed.element g.T.Listed.follows c.loop.found.items (length c.args.symbols.now) c.loop.counter c.loop.rest.now (list_at g.T.Listed.element g.T.Listed.follows (length c.args.symbols.now) c.args.symbols.now) c.loop-test.true c.in_err-element.ensures c.loop.invariant)

pub returns-in-None : goal.returns-in-None
returns-in-None g c =
    rw (c.from_vec.ensures, c.in_ok-push.ensures.items)
    (stops g.T.Listed.element g.T.Listed.follows c.loop.found.items (length c.args.symbols.now) c.loop.counter c.loop.rest.now c.in_ok-element.element c.in_ok-element.after.now (list_at g.T.Listed.element g.T.Listed.follows (length c.args.symbols.now) c.args.symbols.now) c.loop-test.true c.in_ok-element.ensures (sym c.in-None.ensures) c.loop.invariant)

pub loop-preserved : goal.loop-preserved
loop-preserved g c =
    rw (c.in_ok-push.ensures.items)
    (goes_on g.T.Listed.element g.T.Listed.follows c.loop.found.items (length c.args.symbols.now) c.loop.counter c.loop.rest.now c.in_ok-element.element c.in_ok-element.after.now c.in-Some.next.now (list_at g.T.Listed.element g.T.Listed.follows (length c.args.symbols.now) c.args.symbols.now) c.loop-test.true c.in_ok-element.ensures (sym c.in-Some.ensures) c.loop.invariant)

pub returns : goal.returns
returns g c = runs_out g.T.Listed.element g.T.Listed.follows c.loop.found.items (length c.args.symbols.now) c.loop.counter c.loop.rest.now (list_at g.T.Listed.element g.T.Listed.follows (length c.args.symbols.now) c.args.symbols.now) c.loop-test.false c.loop.invariant

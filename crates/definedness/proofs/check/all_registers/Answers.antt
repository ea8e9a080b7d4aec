use Rattle.std.proofs.Common.{◌≡◌, length, take, arith}
use Rattle.std.proofs.lemmas.List.{length-take}
use Rattle.definedness.proofs.Undefined.{registers_next}
use Rattle.definedness.proofs.check.all_registers.Goals as goal

pub loop-index-preserved : goal.loop-index-preserved
loop-index-preserved c =
    let at : length (take c.loop-index.index c.as_slice-blocks.result.now) ≡ c.loop-index.index = omega (arith, length-take c.loop-index.index c.as_slice-blocks.result.now, c.loop-index-test.true) in
    rw (c.in_ok-push.ensures.items, c.from_vec.ensures) (registers_next c.args.function.now c.as_slice-blocks.result.now _ c.index-blocks-index.result _ _ c.loop-index-test.true c.index-blocks-index.is at c.loop-index.invariant c.in_ok-acts.ensures)

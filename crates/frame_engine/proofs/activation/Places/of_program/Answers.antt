use Rattle.std.proofs.Common.{ap, ◌∙◌}
use Rattle.program.specs.declared.function.Function.{Function}
use Rattle.frame_engine.specs.Starts.{alloca_starts}
use Rattle.frame_engine.proofs.Placed.{mapped_on}
use Rattle.frame_engine.proofs.activation.Places.of_program.Goals as goal

pub loop-function-preserved : goal.loop-function-preserved
loop-function-preserved c =
    let l = c.loop-function in
    rw c.in_ok-push.ensures.items (mapped_on (λ (f : Function). alloca_starts f.allocas) l.allocas.items c.as_slice-function-items.result.now l.function-index _ c.function-item.result c.in_ok-starts_of_allocas.field-0 _ c.loop-function-test.true c.function-item.is
    (c.in_ok-starts_of_allocas.ensures ∙ ap alloca_starts c.as_slice-in-loop-function.ensures) l.invariant)

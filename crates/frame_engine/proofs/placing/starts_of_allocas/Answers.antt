use Rattle.program.specs.declared.function.Alloca.{Alloca}
use Rattle.std.proofs.Common.{◌∙◌, refl}
use Rattle.frame_engine.proofs.Bits.{written}
use Rattle.frame_engine.proofs.Placed.{starts_more}
use Rattle.frame_engine.proofs.placing.starts_of_allocas.Goals as goal

pub loop-alloca-preserved : goal.loop-alloca-preserved
loop-alloca-preserved c =
    let l = c.loop-alloca in
    rw c.in_ok-push.ensures.items (starts_more (λ (x : Alloca). x.cells) l.starts.items c.args.allocas.now l.alloca-index l.next _ _ _ _ c.loop-alloca-test.true refl (written c.cast_signed.result c.cast_signed.type_inv ∙ c.cast_signed.ensures) l.invariant)

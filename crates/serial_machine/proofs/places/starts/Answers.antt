use Rattle.std.proofs.Common.{◌∙◌, refl}
use Rattle.frame_engine.proofs.Bits.{written}
use Rattle.serial_machine.proofs.Sizes.{sizes_more}
use Rattle.serial_machine.proofs.places.starts.Goals as goal

pub loop-size-preserved : goal.loop-size-preserved
loop-size-preserved c =
    let l = c.loop-size in
    rw c.in_ok-push.ensures.items (sizes_more l.starts.items c.args.sizes.now l.size-index l.next _ _ _ _ c.loop-size-test.true refl (written c.cast_signed.result c.cast_signed.type_inv ∙ c.cast_signed.ensures) l.invariant)

use Rattle.program.specs.declared.function.Global.{Global}
use Rattle.std.proofs.Common.{◌∙◌}
use Rattle.frame_engine.proofs.Bits.{written}
use Rattle.frame_engine.proofs.Placed.{starts_more}
use Rattle.frame_engine.proofs.placing.starts_of_globals.Goals as goal

pub loop-global-preserved : goal.loop-global-preserved
loop-global-preserved c =
    let l = c.loop-global in
    rw c.in_ok-push.ensures.items (starts_more (λ (x : Global). x.cells) l.starts.items c.args.globals.now l.global-index l.next _ c.global-item.result _ _ c.loop-global-test.true c.global-item.is (written c.cast_signed.result c.cast_signed.type_inv ∙ c.cast_signed.ensures) l.invariant)

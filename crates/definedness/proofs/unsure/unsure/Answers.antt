use Rattle.std.proofs.Common.{None}
use Rattle.definedness_allocas.specs.Sets.{label_of}
use Rattle.definedness.proofs.NeverSure.{unsure_more}
use Rattle.definedness.proofs.unsure.unsure.Goals as goal

pub loop-block-preserved : goal.loop-block-preserved
loop-block-preserved c = rw c.in_ok-push.ensures.items (unsure_more (label_of c.args.sets.now None) _ _ _ c.is_in-label.ensures c.loop-block.invariant)

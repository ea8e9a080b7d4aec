use Rattle.definedness.proofs.Forking.{forks_more}
use Rattle.definedness.proofs.fork.all_forks.Goals as goal

pub loop-block-preserved : goal.loop-block-preserved
loop-block-preserved c = rw c.in_ok-push.ensures.items (forks_more _ _ _ _ _ (record { region = c.fork_region.ensures; ended = c.ended_detach.ensures }) c.loop-block.invariant)

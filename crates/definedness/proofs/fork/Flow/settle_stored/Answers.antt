use Rattle.definedness.proofs.NeverSure.{never_greatest}
use Rattle.definedness.proofs.fork.Flow.settle_stored.Goals as goal

pub returns-clause-marks : goal.returns-clause-marks
returns-clause-marks c b within =
    let marked = c.in_ok-marks.ensures b within in
    let never = never_greatest c.args.stops.items c.args.self.now.forks.now c.args.self.now.blocks.now c.in_ok-sets.sets (rw c.deref.ensures.value at c.in_ok-sets.ensures) b within in
    (λ h. never.0 (marked.0 h), λ n. marked.1 (never.1 n))

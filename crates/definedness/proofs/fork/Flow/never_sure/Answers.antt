use Rattle.definedness.proofs.NeverSure.{never_by_table}
use Rattle.definedness.proofs.fork.Flow.never_sure.Goals as goal

pub returns-clause-marks : goal.returns-clause-marks
returns-clause-marks c b within =
    let never = never_by_table c.args.self.now.bodies.now c.args.self.now.blocks.now c.args.self.now.forks.now c.requires.forks c.requires.size c.args.all.now c.args.alloca c.settle_next.new.last.stops.items (rw (← c.in_ok-settle_next.ensures.stops) at c.in_ok-stops.ensures.exact) b in
    let marked = c.in_ok-settle_next.ensures.last b within in
    rw (c.in_ok-marks.ensures.items_if_clones_equal, c.as_slice.ensures.value) (λ h. never.1 (marked.0 h), λ n. marked.1 (never.0 n))

use Rattle.std.proofs.Common.{◌≡◌, Some, refl, arith}
use Rattle.schedule_core.specs.Lines.{line_of_worker}
use Rattle.schedule_core.specs.Stages.{program_of}
use Rattle.schedule_core.proofs.Lists.{none_more, not_here}
use Rattle.schedule_core.proofs.Views.{stands_nowhere}
use Rattle.schedule_core.proofs.machine.Machine.stands_at.Goals as goal

pub loop-worker-init : goal.loop-worker-init
loop-worker-init c m s w below = absurd (omega arith)

pub loop-worker-preserved : goal.loop-worker-preserved
loop-worker-preserved c m s =
    let stage = c.args.self.now.stage in
    none_more (λ w. line_of_worker (program_of stage) m w ≡ Some c.args.line) c.loop-worker.worker (c.loop-worker.invariant m s) (not_here _ _ c.if-worker_stands_at.false (c.worker_stands_at.ensures m s))

pub returns-then-worker_stands_at : goal.returns-then-worker_stands_at
returns-then-worker_stands_at c m s = ((λ yes. (c.loop-worker.worker, (c.worker_stands_at.ensures m s).0 c.if-worker_stands_at.true)), (λ stands. refl))

pub returns : goal.returns
returns c m s =
    let stage = c.args.self.now.stage in
    let many = stage.run.hands.ok.0 in
    let len = c.len-worker-end.ensures in
    ((λ yes. absurd (cc)), (λ stands. absurd (stands_nowhere stage m s c.args.line (λ w below. c.loop-worker.invariant m s w (omega arith)) stands)))

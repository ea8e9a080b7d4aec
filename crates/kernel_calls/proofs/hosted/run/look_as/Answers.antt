use Rattle.semantics.specs.Events.{Machine}
use Rattle.shared_run.specs.Story.{Origin, origin, reached}
use Rattle.kernel_calls.proofs.hosted.Standing.{ended_here, progress_here, stands}
use Rattle.kernel_calls.proofs.hosted.run.look_as.Goals as goal

pub returns-clause-progress : goal.returns-clause-progress
returns-clause-progress g c =
    let o : Origin = origin g.L.Bench.code g.L.Bench.arguments g.L.Bench.memory g.L.Bench.crew in
    let events = c.rest.result.history.events in
    let m : Machine = reached o events in
    let b = c.wake-board.result.0 in
    progress_here c.end-ended.result c.instructions-instructions.result c.peak-peak.result c.progress_of-progress.result m c.progress_of-progress.ensures
    (ended_here b.start o b.events events c.end-ended.result c.end-ended.ensures c.machine.ensures.start c.rest.ensures.events)
    (c.instructions-instructions.ensures m
    (stands b.start o b.events events b.stage c.machine.result.now.stage c.machine.ensures.legal c.machine.ensures.start c.rest.ensures.events c.machine.ensures.stage))
    (c.peak-peak.ensures m
    (stands b.start o b.events events b.stage c.machine-2.result.now.stage c.machine-2.ensures.legal c.machine-2.ensures.start c.rest.ensures.events c.machine-2.ensures.stage))

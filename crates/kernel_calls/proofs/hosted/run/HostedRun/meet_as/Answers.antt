use Rattle.std.proofs.Common.{subst, sym}
use Rattle.semantics.specs.Events.{Machine}
use Rattle.shared_run.specs.Resting.{StaysPut}
use Rattle.shared_run.specs.Story.{Origin, origin, reached}
use Rattle.shared_run.specs.declared.rest.StrandRest.{StrandRest}
use Rattle.kernel_calls.proofs.hosted.Standing.{ended_here, stands, told_here}
use Rattle.kernel_calls.proofs.hosted.run.HostedRun.meet_as.Goals as goal

pub wake-strand-requires-clause-rests : goal.wake-strand-requires-clause-rests
wake-strand-requires-clause-rests g c = subst (λ (x : StrandRest). StaysPut c.args.verified.now x) (sym c.parts-number.ensures.strand) c.requires.strand

pub returns-clause-told : goal.returns-clause-told
returns-clause-told g c =
    let o : Origin = origin g.L.Bench.code g.L.Bench.arguments g.L.Bench.memory g.L.Bench.crew in
    let events = c.rest.result.history.events in
    let m : Machine = reached o events in
    let b = c.match-told.board in
    told_here c.end-ended.result c.instructions-instructions.result c.args.self.fuel c.told-met.result m c.told-met.ensures.told
    (ended_here b.start o b.events events c.end-ended.result c.end-ended.ensures c.machine-2.ensures.start c.rest.ensures.events)
    (c.instructions-instructions.ensures m
    (stands b.start o b.events events b.stage c.machine-2.result.now.stage c.machine-2.ensures.legal c.machine-2.ensures.start c.rest.ensures.events c.machine-2.ensures.stage))

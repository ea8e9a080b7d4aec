use Rattle.std.proofs.Common.{◌≡◌, ◌+◌, refl, ap, ◌∙◌, ◌++◌, replicate, length, length-append, arith}
use Rattle.std.proofs.lemmas.List.{length-replicate}
use Rattle.std.specs.Prelude.{Ok}
use Rattle.frame.specs.declared.event.Event.TheVariants.{Step}
use Rattle.shared_run.specs.Story.{Origin, origin, story}
use Rattle.shared_run.proofs.Calls.{same_story, stays_same}
use Rattle.shared_run.proofs.Commits.{legal_steps, room_for}
use Rattle.shared_run.proofs.board.Board.put.Goals as goal

pub returns-in-Err : goal.returns-in-Err
returns-in-Err g c =
    let o : Origin = origin g.L.Bench.code g.L.Bench.arguments g.L.Bench.memory g.L.Bench.crew in
    let stage = c.self.inside.machine.stage in
    let events = c.self.inside.history.events in
    rw (← c.self.view_is)
    (stays_same (story o events stage) (story o c.reserve.new.self.events stage) c.args.seat.now c.args.seat.now (same_story o events c.reserve.new.self.events stage stage c.reserve.ensures.events refl, refl))

pub push_steps-requires-clause-count : goal.push_steps-requires-clause-count
push_steps-requires-clause-count g c =
    let o : Origin = origin g.L.Bench.code g.L.Bench.arguments g.L.Bench.memory g.L.Bench.crew in
    let events = c.self.inside.history.events in
    let small = room_for o events c.self.inside.machine.stage c.self.invariant.0 c.publish.new.self.stage c.seat.inside.worker c.in-Some.held.now.done (c.in-Ok-true.ensures.does (ap Ok c.in-Ok-true.field-0-test)) in
    let same = ap length c.reserve.ensures.events in
    omega (arith, small, same)

pub invariant_of-self-in-Ok-true : goal.invariant_of-self-in-Ok-true
invariant_of-self-in-Ok-true g c =
    let o : Origin = origin g.L.Bench.code g.L.Bench.arguments g.L.Bench.memory g.L.Bench.crew in
    let events = c.self.inside.history.events in
    let w = c.seat.inside.worker in
    let n = c.in-Some.held.now.done in
    let more : c.push_steps.new.self.events ≡ events ++ replicate n (Step w) =
    c.push_steps.ensures.events ∙ ap (λ xs. xs ++ replicate n (Step w)) c.reserve.ensures.events in
    let count = ap length more in (
      legal_steps o events c.self.inside.machine.stage c.self.invariant.0 c.publish.new.self.stage w n (c.in-Ok-true.ensures.does (ap Ok c.in-Ok-true.field-0-test)) c.push_steps.new.self.events more,
      omega (arith, count, length-append events (replicate n (Step w)), length-replicate n (Step w), c.add.ensures.total, c.self.invariant.1),
      c.self.invariant.2,
      c.self.invariant.3,
    )

pub returns-in-Err-publish : goal.returns-in-Err-publish
returns-in-Err-publish g c =
    let o : Origin = origin g.L.Bench.code g.L.Bench.arguments g.L.Bench.memory g.L.Bench.crew in
    let stage = c.self.inside.machine.stage in
    let events = c.self.inside.history.events in
    rw (← c.self.view_is)
    (stays_same (story o events stage) (story o c.reserve.new.self.events c.publish.new.self.stage) c.args.seat.now c.args.seat.now
    (same_story o events c.reserve.new.self.events stage c.publish.new.self.stage c.reserve.ensures.events c.in-Err-publish.ensures.refused, refl))

use Rattle.std.proofs.Common.{Bool, refl, ap, ◌∙◌, ◌∷◌, ◌++◌, [], subst, length, length-append, arith}
use Rattle.std.specs.Prelude.{Ok}
use Rattle.schedule_workers.proofs.Growing.{on_err}
use Rattle.schedule_core.specs.Replaying.{Happens, event_of}
use Rattle.schedule_core.specs.Stages.{program_of}
use Rattle.shared_run.specs.Story.{Origin, origin, place, reached, story}
use Rattle.shared_run.proofs.Bound.{room}
use Rattle.shared_run.proofs.Calls.{leaves_grown, leaves_same, same_story}
use Rattle.shared_run.proofs.Stories.{done_here, legal_more, not_here}
use Rattle.shared_run.proofs.board.Board.append.Goals as goal

pub push-requires-clause-count : goal.push-requires-clause-count
push-requires-clause-count g c =
    let o : Origin = origin g.L.Bench.code g.L.Bench.arguments g.L.Bench.memory g.L.Bench.crew in
    let r = room o c.self.inside.history.events c.self.inside.machine.stage c.self.invariant.0 in
    let e = ap length c.reserve.ensures.events in
    omega (arith, r, e)

pub invariant_of-self-in-Ok-true : goal.invariant_of-self-in-Ok-true
invariant_of-self-in-Ok-true g c =
    let o : Origin = origin g.L.Bench.code g.L.Bench.arguments g.L.Bench.memory g.L.Bench.crew in
    let happened = subst (λ (b : Bool). Happens c.self.inside.machine.stage c.apply.new.self.stage (event_of c.args.event) b) c.in-Ok-true.field-0-test c.in-Ok-true.ensures.enabled in
    let more = c.push.ensures.events ∙ ap (λ xs. xs ++ c.args.event ∷ []) c.reserve.ensures.events in
    let count = ap length more in (
      legal_more o c.self.inside.history.events c.self.inside.machine.stage c.self.invariant.0 c.args.event c.push.new.self.events c.apply.new.self.stage more happened
          c.in-Ok-true.ensures.keeps,
      omega (arith, count, length-append c.self.inside.history.events (c.args.event ∷ []), c.add.ensures.total, c.self.invariant.1),
      c.self.invariant.2,
      c.self.invariant.3,
    )

pub returns-in-Ok-true-clause-done : goal.returns-in-Ok-true-clause-done
returns-in-Ok-true-clause-done g c =
    let o : Origin = origin g.L.Bench.code g.L.Bench.arguments g.L.Bench.memory g.L.Bench.crew in
    let happened = subst (λ (b : Bool). Happens c.self.inside.machine.stage c.apply.new.self.stage (event_of c.args.event) b) c.in-Ok-true.field-0-test c.in-Ok-true.ensures.enabled in
    let more = c.push.ensures.events ∙ ap (λ xs. xs ++ c.args.event ∷ []) c.reserve.ensures.events in
    rw (← c.self.view_is, ← c.seat.view_is) (
      record { start = refl; events = more; share = ap (place c.seat.inside.worker) c.add.ensures.amount },
      done_here o c.self.inside.history.events c.self.inside.machine.stage c.self.invariant.0 c.args.event c.push.new.self.events c.apply.new.self.stage more happened,
    )

pub returns-in-Ok-false-clause-done : goal.returns-in-Ok-false-clause-done
returns-in-Ok-false-clause-done g c =
    let o : Origin = origin g.L.Bench.code g.L.Bench.arguments g.L.Bench.memory g.L.Bench.crew in
    let happened = subst (λ (b : Bool). Happens c.self.inside.machine.stage c.apply.new.self.stage (event_of c.args.event) b) c.in-Ok-false.field-0-test c.in-Ok-false.ensures.enabled in
    rw (← c.self.view_is) (
      (
        same_story o c.self.inside.history.events c.reserve.new.self.events c.self.inside.machine.stage c.apply.new.self.stage c.reserve.ensures.events
            (c.in-Ok-false.ensures.not_enabled (ap Ok c.in-Ok-false.field-0-test)),
        refl,
      ),
      not_here o c.self.inside.history.events c.self.inside.machine.stage c.self.invariant.0 c.args.event c.apply.new.self.stage happened,
    )

pub returns-in_err-reserve-clause-refused : goal.returns-in_err-reserve-clause-refused
returns-in_err-reserve-clause-refused g c =
    let o : Origin = origin g.L.Bench.code g.L.Bench.arguments g.L.Bench.memory g.L.Bench.crew in
    let stage = c.self.inside.machine.stage in
    let events = c.self.inside.history.events in
    rw (← c.self.view_is)
    (on_err c.from_residual.result
    (leaves_same c.args.event (story o events stage) (story o c.reserve.new.self.events stage) c.args.seat.now c.args.seat.now (same_story o events c.reserve.new.self.events stage stage c.reserve.ensures.events refl, refl)))

pub returns-in-Err-clause-refused : goal.returns-in-Err-clause-refused
returns-in-Err-clause-refused g c =
    let o : Origin = origin g.L.Bench.code g.L.Bench.arguments g.L.Bench.memory g.L.Bench.crew in
    let stage = c.self.inside.machine.stage in
    let events = c.self.inside.history.events in
    rw (← c.self.view_is)
    (leaves_grown (program_of stage) (reached o events) c.args.event (story o events stage) (story o c.reserve.new.self.events c.apply.new.self.stage) c.args.seat.now c.args.seat.now
    (c.in-Err.ensures.only (reached o events) c.self.invariant.0.replays.state)
    (record { start = refl; events = c.reserve.ensures.events; stage = c.in-Err.ensures.refused; seat = refl }))

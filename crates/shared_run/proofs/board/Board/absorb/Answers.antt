use Rattle.std.proofs.Common.{◌≡◌, ◌+◌, false, refl, sym, ap, ◌∙◌, ◌++◌, replicate, subst, length, length-append, arith}
use Rattle.std.proofs.lemmas.List.{length-replicate}
use Rattle.std.specs.Prelude.{IsTrue, Ok}
use Rattle.schedule_workers.proofs.Growing.{on_err}
use Rattle.program.specs.declared.function.Program.{Program}
use Rattle.schedule_core.specs.schedule_commit.Absorbing.{steps_in}
use Rattle.frame.specs.declared.event.Event.TheVariants.{Step}
use Rattle.schedule_core.specs.FrameStrands.{FrameStrandFits, IsMadeOf}
use Rattle.shared_run.specs.Story.{Origin, origin, place, story}
use Rattle.shared_run.proofs.Calls.{same_story, stays_same}
use Rattle.shared_run.proofs.Commits.{legal_steps, room_for}
use Rattle.shared_run.proofs.board.Board.absorb.Goals as goal

pub absorb-requires : goal.absorb-requires
absorb-requires g c = record { made = subst (λ (q : Program). IsMadeOf q c.args.strand.now) (sym c.self.invariant.0.replays.program) c.requires.made }

pub push_steps-requires-clause-count : goal.push_steps-requires-clause-count
push_steps-requires-clause-count g c =
    let o : Origin = origin g.L.Bench.code g.L.Bench.arguments g.L.Bench.memory g.L.Bench.crew in
    let events = c.self.inside.history.events in
    let w = c.seat.inside.worker in
    let x = c.args.strand.now in
    let absorbs = c.in-Ok-true.ensures.does (ap Ok c.in-Ok-true.field-0-test) in
    let small = room_for o events c.self.inside.machine.stage c.self.invariant.0 c.absorb.new.self.stage w (steps_in x.pause x.course.done) absorbs.steps in
    let same = ap length c.reserve.ensures.events in
    omega (arith, small, same, c.steps_of-count.ensures)

pub invariant_of-self-in-Ok-true : goal.invariant_of-self-in-Ok-true
invariant_of-self-in-Ok-true g c =
    let o : Origin = origin g.L.Bench.code g.L.Bench.arguments g.L.Bench.memory g.L.Bench.crew in
    let events = c.self.inside.history.events in
    let w = c.seat.inside.worker in
    let x = c.args.strand.now in
    let n = steps_in x.pause x.course.done in
    let absorbs = c.in-Ok-true.ensures.does (ap Ok c.in-Ok-true.field-0-test) in
    let more : c.push_steps.new.self.events ≡ events ++ replicate n (Step w) =
    c.push_steps.ensures.events ∙ (ap (λ xs. xs ++ replicate c.steps_of-count.result (Step w)) c.reserve.ensures.events ∙ ap (λ k. events ++ replicate k (Step w)) c.steps_of-count.ensures) in
    let count = ap length more in (
      legal_steps o events c.self.inside.machine.stage c.self.invariant.0 c.absorb.new.self.stage w n absorbs.steps c.push_steps.new.self.events more,
      omega (arith, count, length-append events (replicate n (Step w)), length-replicate n (Step w), c.add.ensures.total, c.self.invariant.1, c.steps_of-count.ensures),
      c.self.invariant.2,
      c.self.invariant.3,
    )

pub returns-in-Ok-true-clause-done : goal.returns-in-Ok-true-clause-done
returns-in-Ok-true-clause-done g c =
    let events = c.self.inside.history.events in
    let w = c.seat.inside.worker in
    let x = c.args.strand.now in
    let n = steps_in x.pause x.course.done in
    let more : c.push_steps.new.self.events ≡ events ++ replicate n (Step w) =
    c.push_steps.ensures.events ∙ (ap (λ xs. xs ++ replicate c.steps_of-count.result (Step w)) c.reserve.ensures.events ∙ ap (λ k. events ++ replicate k (Step w)) c.steps_of-count.ensures) in
    rw (← c.self.view_is, ← c.seat.view_is) (
      (c.in-Ok-true.ensures.exactly).0 c.in-Ok-true.field-0-test,
      record {
        start = refl;
        events = more;
        share = ap (place w) (c.add.ensures.amount ∙ ap (λ k. c.seat.inside.share.amount + k) (c.steps_of-count.ensures ∙ sym (length-replicate n (Step w))));
      },
      c.in-Ok-true.ensures.does (ap Ok c.in-Ok-true.field-0-test),
    )

pub returns-in-Ok-false-clause-done : goal.returns-in-Ok-false-clause-done
returns-in-Ok-false-clause-done g c =
    let o : Origin = origin g.L.Bench.code g.L.Bench.arguments g.L.Bench.memory g.L.Bench.crew in
    let events = c.self.inside.history.events in
    let stage = c.self.inside.machine.stage in
    rw (← c.self.view_is, ← c.seat.view_is) (
      (same_story o events c.reserve.new.self.events stage c.absorb.new.self.stage c.reserve.ensures.events (c.in-Ok-false.ensures.left (ap Ok c.in-Ok-false.field-0-test)), refl),
      λ (fits : FrameStrandFits stage c.seat.inside.worker c.args.strand.now). (let here : IsTrue c.in-Ok-false.field-0 = (c.in-Ok-false.ensures.exactly).1 fits in let off : c.in-Ok-false.field-0 ≡ false = c.in-Ok-false.field-0-test in cc),
    )

pub returns-in_err-reserve-clause-refused : goal.returns-in_err-reserve-clause-refused
returns-in_err-reserve-clause-refused g c =
    let o : Origin = origin g.L.Bench.code g.L.Bench.arguments g.L.Bench.memory g.L.Bench.crew in
    let stage = c.self.inside.machine.stage in
    let events = c.self.inside.history.events in
    rw (← c.self.view_is)
    (on_err c.from_residual.result
    (stays_same (story o events stage) (story o c.reserve.new.self.events stage) c.args.seat.now c.args.seat.now (same_story o events c.reserve.new.self.events stage stage c.reserve.ensures.events refl, refl)))

pub returns-in-Err-clause-refused : goal.returns-in-Err-clause-refused
returns-in-Err-clause-refused g c = rw (← c.self.view_is) (record { start = refl; events = c.reserve.ensures.events; stage = c.in-Err.ensures.refused; seat = refl })

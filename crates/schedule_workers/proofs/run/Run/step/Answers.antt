use Rattle.std.proofs.Common.{true, ◌<◌, ℕ, length, Option, Vec, Global, sym, ap, ◌∙◌, subst}
use Rattle.std.specs.Vec.{vec_len}
use Rattle.std.proofs.Math.Logic.{∥∥₁_map}
use Rattle.semantics.specs.Events.{Step}
use Rattle.schedule_workers.specs.Going.{TextFits}
use Rattle.schedule_workers.specs.Scheduling.{hand_of}
use Rattle.schedule_workers.proofs.Growing.{on_err}
use Rattle.schedule_workers.proofs.Stepping.{grows_then, idle_stays, leaves_then, roomier_leaves, stalls_then, stands_then, steps_then}
use Rattle.schedule_workers.proofs.Uses.{follows_same, kept_follows}
use Rattle.schedule_workers.proofs.run.Run.step.Goals as goal

pub returns-in_default-clause-event : goal.returns-in_default-clause-event
returns-in_default-clause-event c = idle_stays c.args.program.now c.args.places.now c.args.self.now c.args.worker (sym c.hand.ensures.slot ∙ c.in_default.is)

pub returns-in_default-clause-follows : goal.returns-in_default-clause-follows
returns-in_default-clause-follows c = follows_same c.args.self.now.cactus

pub border-requires-clause-safe : goal.border-requires-clause-safe
border-requires-clause-safe c = ∥∥₁_map c.requires.safe (stands_then c.args.program.now c.args.places.now c.args.self.now c.plain.new.self c.plain.ensures.hands c.if-not-plain.ensures.left)

pub returns-in_err-border-clause-refused : goal.returns-in_err-border-clause-refused
returns-in_err-border-clause-refused c =
    let left = roomier_leaves c.args.program.now c.args.places.now c.plain.new.self c.border.new.self c.in_err-border.ensures.refused in
    on_err c.from_residual.result
    (leaves_then c.args.program.now c.args.places.now c.args.self.now c.plain.new.self c.plain.ensures.hands c.if-not-plain.ensures.left c.border.new.self c.plain.ensures.uses c.if-not-plain.ensures.stalled left)

pub returns-in_err-border-clause-grows : goal.returns-in_err-border-clause-grows
returns-in_err-border-clause-grows c =
    on_err c.from_residual.result
    (grows_then c.args.program.now c.args.places.now c.args.self.now c.plain.new.self c.plain.ensures.hands c.if-not-plain.ensures.left c.args.worker c.in_err-border.ensures.grows)

pub returns-in_err-border-clause-follows : goal.returns-in_err-border-clause-follows
returns-in_err-border-clause-follows c = kept_follows c.args.self.now.cactus c.plain.new.self.cactus c.border.new.self.cactus c.plain.ensures.uses c.border.ensures.follows

pub returns-in_ok-border-clause-event : goal.returns-in_ok-border-clause-event
returns-in_ok-border-clause-event c =
    steps_then c.args.program.now c.args.places.now c.args.self.now c.plain.new.self c.plain.ensures.hands c.if-not-plain.ensures.left c.border.new.self c.args.worker c.in_ok-border.ensures.steps

pub returns-in_ok-border-clause-stalls : goal.returns-in_ok-border-clause-stalls
returns-in_ok-border-clause-stalls c =
    stalls_then c.args.program.now c.args.places.now c.args.self.now c.plain.new.self c.plain.ensures.hands c.if-not-plain.ensures.left c.border.new.self c.if-not-plain.ensures.stalled (Step c.args.worker) true c.in_ok-border.ensures.stalls

pub returns-in_ok-border-clause-follows : goal.returns-in_ok-border-clause-follows
returns-in_ok-border-clause-follows c = kept_follows c.args.self.now.cactus c.plain.new.self.cactus c.border.new.self.cactus c.plain.ensures.uses c.border.ensures.follows

pub plain-requires-clause-text : goal.plain-requires-clause-text
plain-requires-clause-text c = c.requires.text.fits

pub plain-requires-clause-held : goal.plain-requires-clause-held
plain-requires-clause-held c = record { worker = c.args.worker; hand = sym c.hand.ensures.slot ∙ c.in-Some.is }

pub border-requires-clause-text : goal.border-requires-clause-text
border-requires-clause-text c = subst (λ (n : ℕ). TextFits c.args.program.now c.args.places.now n) (sym c.plain.ensures.moves) c.requires.text

pub border-requires-clause-hand : goal.border-requires-clause-hand
border-requires-clause-hand c = ap (λ (hands : Vec (Option ℕ) Global). hand_of hands.items c.args.worker) c.plain.ensures.hands ∙ (sym c.hand.ensures.slot ∙ c.in-Some.is)

pub border-requires-clause-worker : goal.border-requires-clause-worker
border-requires-clause-worker c = subst (λ (hands : Vec (Option ℕ) Global). c.args.worker < vec_len hands) (sym c.plain.ensures.hands) c.in-Some.ensures.worker

pub border-requires-clause-border : goal.border-requires-clause-border
border-requires-clause-border c = c.if-not-plain.ensures.border

pub returns-in_err-border-clause-workers : goal.returns-in_err-border-clause-workers
returns-in_err-border-clause-workers c = c.border.ensures.workers ∙ ap (λ (hands : Vec (Option ℕ) Global). length hands.items) c.plain.ensures.hands

pub returns-in_err-border-clause-moves : goal.returns-in_err-border-clause-moves
returns-in_err-border-clause-moves c = c.border.ensures.moves ∙ c.plain.ensures.moves

pub returns-in_ok-border-clause-workers : goal.returns-in_ok-border-clause-workers
returns-in_ok-border-clause-workers c = c.border.ensures.workers ∙ ap (λ (hands : Vec (Option ℕ) Global). length hands.items) c.plain.ensures.hands

pub returns-in_ok-border-clause-moves : goal.returns-in_ok-border-clause-moves
returns-in_ok-border-clause-moves c = c.border.ensures.moves ∙ c.plain.ensures.moves

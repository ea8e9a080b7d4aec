use Rattle.std.proofs.Common.{◌≡◌, ℕ, zero, suc, ◌+◌, ◌<◌, List, [], ◌∷◌, ◌++◌, take, length, get_or, add-one, arith, sym, ap, ◌∙◌, subst}
use Rattle.std.proofs.lemmas.List.{take_all}
use Rattle.frame.specs.declared.event.Event.{Event}
use Rattle.schedule_core.specs.Replaying.{ReplaysMore}
use Rattle.schedule_core.proofs.Replaying.{none_more, one_more}
use Rattle.schedule_core.proofs.events.apply_all.Goals as goal

taken_next : (xs : List Event) (k : ℕ) (e : Event) → k < length xs → e ≡ get_or xs k e → take (suc k) xs ≡ take k xs ++ e ∷ []
taken_next [] k e lt is = absurd (omega arith)
taken_next (x ∷ xs) zero e lt is = ap (λ (y : Event). y ∷ []) (sym is)
taken_next (x ∷ xs) (suc k) e lt is = ap (λ (l : List Event). x ∷ l) (taken_next xs k e (omega arith) is)

pub apply_to-requires : goal.apply_to-requires
apply_to-requires c = c.loop-event.invariant.machine

pub loop-event-init : goal.loop-event-init
loop-event-init c = record { replays = none_more c.args.stage.now; machine = c.requires }

pub loop-event-preserved : goal.loop-event-preserved
loop-event-preserved c =
    let old = c.args.stage.now in
    let index = c.loop-event.event-index in
    let e = c.event-item.result in
    let within : c.loop-event.event-index < length c.args.events.now = c.loop-event-test.true in
    let more : take (index + 1) c.args.events.now ≡ take index c.args.events.now ++ e ∷ [] = ap (λ n. take n c.args.events.now) (add-one index) ∙ taken_next c.args.events.now index e within c.event-item.is in
    record {
      replays =
          subst (λ (l : List Event). ReplaysMore old c.apply_to.new.stage l) (sym more)
          (one_more old c.loop-event.stage c.apply_to.new.stage (take index c.args.events.now) e c.loop-event.invariant.replays c.in_ok-_enabled.ensures.replays);
      machine = c.apply_to.ensures.machine;
    }

pub returns-clause-replays : goal.returns-clause-replays
returns-clause-replays c =
    let all : take c.loop-event.event-index c.args.events.now ≡ c.args.events.now = take_all c.loop-event.event-index c.args.events.now c.loop-event-test.false in
    subst (λ (l : List Event). ReplaysMore c.args.stage.now c.loop-event.stage l) all c.loop-event.invariant.replays

pub returns-clause-machine : goal.returns-clause-machine
returns-clause-machine c = c.loop-event.invariant.machine

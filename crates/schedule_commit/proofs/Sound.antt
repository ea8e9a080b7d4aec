-- A machine from which each schedule is safe never traps.
use Rattle.std.proofs.Common.{◌≡◌, ◌∙◌, ℕ, [], ◌∷◌, Option, Some, None, Bool, true, false, cond, refl, sym, ap, subst, pos, ltb, is_none, ◌&&◌}
use Rattle.std.specs.Prelude.{IsSome}
use Rattle.semantics.specs.Paths.{Path}
use Rattle.semantics.specs.Frames.{Frame}
use Rattle.semantics.specs.Effect.{action_of}
use Rattle.semantics.specs.State.{State, Change, change_of}
use Rattle.semantics.specs.Events as running
use Rattle.semantics.specs.Events.{Machine, Event, Step, Steal, Status, Running, Ready, Stalled, event}
use Rattle.semantics.specs.Replay.{or_unchanged, replay}
use Rattle.semantics.specs.Sound.{NeverTraps}
use Rattle.semantics.proofs.Steps.{Does, plain, detach, reattach, sync, call, ret, end, does, some_same}
use Rattle.program.specs.declared.function.Program.{Program}
use Rattle.frame_engine.specs.Shows.{TrapFree}
use Rattle.schedule_workers.specs.Going.{CanStep, RunsSafely}
use Rattle.schedule_workers.proofs.Standing.{safe_next}

-- a step that is safe does not trap
quiet : (prog : Program) (s : State) (p : Path) (c : Change) → Does prog s p c → (f : Frame) → s.frames p ≡ Some f → TrapFree (action_of prog p f s.memory) → c.trap ≡ None
quiet prog s p c (plain g e is go at) f here free =
    let same : f ≡ g = some_same f g (sym here ∙ is) in
    subst TrapFree (ap (λ (x : Frame). action_of prog p x s.memory) same ∙ at) free
quiet prog s p c (detach g r b n is go at) f here free = refl
quiet prog s p c (reattach g r n is go at none role) f here free = refl
quiet prog s p c (sync g r b rs is go at) f here free = refl
quiet prog s p c (call g d callee vs is go at) f here free = refl
quiet prog s p c (ret g v k above h j d is go at none role up over waits) f here free = refl
quiet prog s p c (end g v is go at none role root) f here free = refl

none_is_some : (o : Option Change) → o ≡ None → IsSome o → ⊥
none_is_some None is some = cc
none_is_some (Some c) is some = cc

module _ (prog : Program) (workers : ℕ) where
  module _ (m next : Machine) (safe : RunsSafely prog workers m) (sound : m.trapped ≡ None) where
    module _ (w : ℕ) (p : Path) (hand : m.hands w ≡ Some p) (f : Frame) (stands : m.core.frames p ≡ Some f) where
      can : CanStep prog m p f
      can = (safe []).steps w p f hand stands

      by_change : (o : Option Change) → change_of prog m.core p ≡ o → running.by_change prog workers m w p f o ≡ next → next.trapped ≡ None
      by_change None is h = absurd (none_is_some (change_of prog m.core p) is can.goes)
      by_change (Some c) is h = sym (ap (λ (x : Machine). x.trapped) h) ∙ quiet prog m.core p c (does prog m.core p c is) f stands (can.safe (λ o. pos 0)).trap_free

    by_frame : (w : ℕ) (p : Path) → m.hands w ≡ Some p → (o : Option Frame) → m.core.frames p ≡ o → running.by_frame prog workers m w p o ≡ Some next → next.trapped ≡ None
    by_frame w p hand None is h = absurd cc
    by_frame w p hand (Some f) is h = by_change w p hand f is (change_of prog m.core p) refl (some_same _ next h)

    by_hand : (w : ℕ) (o : Option Path) → m.hands w ≡ o → running.by_hand prog workers m w o ≡ Some next → next.trapped ≡ None
    by_hand w None is h = absurd cc
    by_hand w (Some p) is h = by_frame w p is (m.core.frames p) refl h

    by_status : (w : ℕ) (t : Path) (o : Option Status) → running.if_ready (running.stolen m w t) o ≡ Some next → next.trapped ≡ None
    by_status w t None h = absurd cc
    by_status w t (Some Ready) h = sym (ap (λ (x : Machine). x.trapped) (some_same (running.stolen m w t) next h)) ∙ sound
    by_status w t (Some (Running v)) h = absurd cc
    by_status w t (Some (Stalled r)) h = absurd cc

    by_test : (w : ℕ) (t : Path) (b : Bool) → cond b (running.if_ready (running.stolen m w t) (running.status_of workers m t)) None ≡ Some next → next.trapped ≡ None
    by_test w t true h = by_status w t (running.status_of workers m t) h
    by_test w t false h = absurd cc

    by_event : (e : Event) → running.sound_event prog workers e m ≡ Some next → next.trapped ≡ None
    by_event (Step w) h = by_hand w (m.hands w) refl h
    by_event (Steal w t) h = by_test w t (ltb w workers && is_none (m.hands w)) h

    sound_after : (e : Event) → event prog workers e m ≡ Some next → next.trapped ≡ None
    sound_after e is = by_event e (sym (ap (λ o. running.unless_trapped o (running.sound_event prog workers e m)) sound) ∙ is)

  pub never_traps : (m : Machine) → RunsSafely prog workers m → m.trapped ≡ None → NeverTraps prog workers m
  never_traps m safe sound [] = sound
  never_traps m safe sound (e ∷ events) = from (event prog workers e m) refl (λ n good fine. never_traps n good fine events)
    where
      from : (o : Option Machine) → event prog workers e m ≡ o → ((n : Machine) → RunsSafely prog workers n → n.trapped ≡ None → (replay prog workers events n).trapped ≡ None) → (replay prog workers events (or_unchanged o m)).trapped ≡ None
      from None is later = later m safe sound
      from (Some next) is later = later next (safe_next prog workers m next e is safe) (sound_after m next safe sound e is)

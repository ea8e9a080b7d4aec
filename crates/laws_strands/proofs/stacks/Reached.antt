-- Machines that a schedule leads to without a trap are orderly.
use Rattle.std.proofs.Common.{◌≡◌, ℕ, List, [], ◌∷◌, Option, Some, None, refl, sym, ap, ◌∙◌, subst}
use Rattle.semantics.specs.Paths.{Path}
use Rattle.semantics.specs.Arithmetic.{Trap}
use Rattle.semantics.specs.Frames.{Frame}
use Rattle.semantics.specs.State.{Change, change_of}
use Rattle.semantics.specs.Events.{Machine, Event, Step, Steal, event, sound_event, unless_trapped, by_hand, by_frame, by_change, start}
use Rattle.semantics.specs.Replay.{replay, or_unchanged}
use Rattle.semantics.proofs.Steps.{does}
use Rattle.semantics.proofs.Workers.{Manned}
use Rattle.semantics.proofs.Machines.{step_manned, found, stolen_manned}
use Rattle.semantics.proofs.Starting.{start_manned}
use Rattle.laws_strands.specs.stacks.Law.{IsOrderly, ReachedAreOrderly}
use Rattle.program.specs.declared.function.Program.{Program}

module _ (prog : Program) (workers : ℕ) where
  trapped_stays : (events : List Event) (m : Machine) (t : Trap) → m.trapped ≡ Some t → replay prog workers events m ≡ m
  trapped_stays [] m t is = refl
  trapped_stays (e ∷ events) m t is = ap (λ o. replay prog workers events (or_unchanged (unless_trapped o (sound_event prog workers e m)) m)) is ∙ trapped_stays events m t is

  by_the_change : (m next : Machine) (w : ℕ) (p : Path) (f : Frame) (o : Option Change) → change_of prog m.core p ≡ o → Manned workers m.core m.hands → m.hands w ≡ Some p → m.core.frames p ≡ Some f → by_change prog workers m w p f o ≡ next → next.trapped ≡ None → Manned workers next.core next.hands
  by_the_change m next w p f None none man here is e fine = absurd (let t = ap (λ (x : Machine). x.trapped) e in cc)
  by_the_change m next w p f (Some c) change man here is e fine =
      let quiet : c.trap ≡ None = ap (λ (x : Machine). x.trapped) e ∙ fine in
      subst (λ (x : Machine). Manned workers x.core x.hands) e (step_manned prog workers m man w p here c (does prog m.core p c change) quiet f is)

  by_the_frame : (m next : Machine) (w : ℕ) (p : Path) (o : Option Frame) → m.core.frames p ≡ o → Manned workers m.core m.hands → m.hands w ≡ Some p → by_frame prog workers m w p o ≡ Some next → next.trapped ≡ None → Manned workers next.core next.hands
  by_the_frame m next w p None is man here e fine = absurd (cc)
  by_the_frame m next w p (Some f) is man here e fine = by_the_change m next w p f (change_of prog m.core p) refl man here is (let s : Some (by_change prog workers m w p f (change_of prog m.core p)) ≡ Some next = e in cc) fine

  by_the_hand : (m next : Machine) (w : ℕ) (o : Option Path) → m.hands w ≡ o → Manned workers m.core m.hands → by_hand prog workers m w o ≡ Some next → next.trapped ≡ None → Manned workers next.core next.hands
  by_the_hand m next w None here man e fine = absurd (cc)
  by_the_hand m next w (Some p) here man e fine = by_the_frame m next w p (m.core.frames p) refl man here e fine

  event_manned : (e : Event) (m next : Machine) → Manned workers m.core m.hands → sound_event prog workers e m ≡ Some next → next.trapped ≡ None → Manned workers next.core next.hands
  event_manned (Step w) m next man is fine = by_the_hand m next w (m.hands w) refl man is fine
  event_manned (Steal w t) m next man is fine =
      let f = found workers m man prog w t next is in
      subst (λ (x : Machine). Manned workers x.core x.hands) f.made (stolen_manned workers m man w t next f)

  pub after_replay : (events : List Event) (m : Machine) → Manned workers m.core m.hands → (replay prog workers events m).trapped ≡ None → Manned workers (replay prog workers events m).core (replay prog workers events m).hands
  after_replay [] m man fine = man
  after_replay (e ∷ events) m man fine = from (event prog workers e m) refl fine (λ next. after_replay events next)
    where
      step : (next : Machine) → event prog workers e m ≡ Some next → next.trapped ≡ None → (t : Option Trap) → m.trapped ≡ t → Manned workers next.core next.hands
      step next is fine2 None sound = event_manned e m next man (sym (ap (λ o. unless_trapped o (sound_event prog workers e m)) sound) ∙ is) fine2
      step next is fine2 (Some t) sound = absurd (let none : None ≡ Some next = sym (ap (λ o. unless_trapped o (sound_event prog workers e m)) sound) ∙ is in cc)

      quiet : (next : Machine) → (replay prog workers events next).trapped ≡ None → (o : Option Trap) → next.trapped ≡ o → next.trapped ≡ None
      quiet next fine2 None is = is
      quiet next fine2 (Some t) is = absurd (let same : (replay prog workers events next).trapped ≡ Some t = ap (λ (x : Machine). x.trapped) (trapped_stays events next t is) ∙ is in cc)

      from : (o : Option Machine) → event prog workers e m ≡ o → (replay prog workers events (or_unchanged o m)).trapped ≡ None → ((next : Machine) → Manned workers next.core next.hands → (replay prog workers events next).trapped ≡ None → Manned workers (replay prog workers events next).core (replay prog workers events next).hands) →
          Manned workers (replay prog workers events (or_unchanged o m)).core (replay prog workers events (or_unchanged o m)).hands
      from None is fine2 rest = rest m man fine2
      from (Some next) is fine2 rest = let sound = quiet next fine2 next.trapped refl in rest next (step next is sound m.trapped refl) fine2

pub orderly : (workers : ℕ) (m : Machine) → Manned workers m.core m.hands → IsOrderly m
orderly workers m man = record { tree = man.tree; alone = man.alone; lives = λ w p e. let here = (man.goers w p e).is in rw here }

pub reached_are_orderly : ReachedAreOrderly
reached_are_orderly prog arguments memory workers some events fine =
    orderly workers (replay prog workers events (start prog arguments memory))
    (after_replay prog workers events (start prog arguments memory) (start_manned prog arguments memory workers some) fine)

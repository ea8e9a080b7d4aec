-- What each step keeps is so of each state that a schedule leads to, as long as nothing traps.
use Rattle.std.proofs.Common.{◌≡◌, ◌∙◌, ℕ, List, [], ◌∷◌, Option, Some, None, Bool, true, false, cond, refl, sym, ap, subst, ltb, ◌&&◌, is_none}
use Rattle.semantics.specs.Paths.{Path}
use Rattle.semantics.specs.Arithmetic.{Unmatched}
use Rattle.semantics.specs.Frames.{Frame}
use Rattle.semantics.specs.Effect.{action_of}
use Rattle.semantics.specs.State.{State, Change, apply, change_of, trap_change}
use Rattle.semantics.specs.Events.{Machine, Event, Step, Steal, Status, Ready, Running, Stalled, if_ready, stolen, status_of, event, by_change, stepped, next_hand}
use Rattle.semantics.specs.Replay.{or_unchanged, replay}
use Rattle.semantics.specs.Sound.{NeverTraps}
use Rattle.semantics.proofs.Steps.{Does, does}
use Rattle.program.specs.declared.function.Program.{Program}
use Rattle.laws_conditions.proofs.theorem.Theorem.{not_trapped}

module _ (prog : Program) (workers : ℕ) where
  -- what is so of all machines from here on is so from each later one on
  pub from_later : (P : Machine → Type 0) (events : List Event) (m : Machine) → ((more : List Event) → P (replay prog workers more m)) →
      (more : List Event) → P (replay prog workers more (replay prog workers events m))
  from_later P [] m h = h
  from_later P (e ∷ events) m h = from_later P events (or_unchanged (event prog workers e m) m) (λ more. h (e ∷ more))

  -- the step of a worker that runs a task: the machine that it makes is the one by this change
  pub record Next (m : Machine) (w : ℕ) (p : Path) (f : Frame) : Type 0 where
    pub change : Change
    pub does : Does prog m.core p change
    pub fine : change.trap ≡ None
    pub after : Machine
    pub is : event prog workers (Step w) m ≡ Some after
    pub core : after.core ≡ apply change m.core

  trap_there : (m : Machine) (w : ℕ) (p : Path) (f : Frame) (after : Machine) → stepped m w (trap_change p f Unmatched) (Some p) ≡ after → after.trapped ≡ None → ⊥
  trap_there m w p f after e fine = let t : Some Unmatched ≡ None = ap (λ (x : Machine). x.trapped) e ∙ fine in cc

  by_step : (m : Machine) (w : ℕ) (p : Path) (f : Frame) → m.hands w ≡ Some p → m.core.frames p ≡ Some f → m.trapped ≡ None → (next : Machine) → or_unchanged (event prog workers (Step w) m) m ≡ next → next.trapped ≡ None → Next m w p f
  by_step m w p f here is fine next e then = from (change_of prog m.core p) refl
    where
      enabled : (o : Option Change) → change_of prog m.core p ≡ o → event prog workers (Step w) m ≡ Some (by_change prog workers m w p f o)
      enabled o ch = not_trapped m.trapped _ fine ∙ rw (here, is, ch)

      from : (o : Option Change) → change_of prog m.core p ≡ o → Next m w p f
      from None ch =
          let same : stepped m w (trap_change p f Unmatched) (Some p) ≡ next = sym (ap (λ (x : Option Machine). or_unchanged x m) (enabled None ch)) ∙ e in
          absurd (trap_there m w p f next same then)
      from (Some c) ch =
          let made : Machine = stepped m w c (next_hand workers m (apply c m.core) p f (action_of prog p f m.core.memory)) in
          let same : made ≡ next = sym (ap (λ (x : Option Machine). or_unchanged x m) (enabled (Some c) ch)) ∙ e in
          record { change = c; does = does prog m.core p c ch; fine = ap (λ (x : Machine). x.trapped) same ∙ then; after = made; is = enabled (Some c) ch; core = refl }

  -- where nothing traps, each frame in a hand has a step to do
  pub held_next : (m : Machine) → NeverTraps prog workers m → (w : ℕ) (p : Path) (f : Frame) → m.hands w ≡ Some p → m.core.frames p ≡ Some f → Next m w p f
  held_next m never w p f here is = by_step m w p f here is (never []) (or_unchanged (event prog workers (Step w) m) m) refl (never (Step w ∷ []))

  -- ---- what each step keeps

  stolen_core : (m after : Machine) (o : Option Status) → if_ready m o ≡ Some after → m.core ≡ after.core
  stolen_core m after None e = absurd (cc)
  stolen_core m after (Some Ready) e = let same : m ≡ after = cc in ap (λ (x : Machine). x.core) same
  stolen_core m after (Some (Running w)) e = absurd (cc)
  stolen_core m after (Some (Stalled r)) e = absurd (cc)

  chosen_core : (m after : Machine) (b : Bool) (o : Option Status) → cond b (if_ready m o) None ≡ Some after → m.core ≡ after.core
  chosen_core m after true o e = stolen_core m after o e
  chosen_core m after false o e = absurd (cc)

  module _ (Good : State → Type 0) (kept : (s : State) (p : Path) (c : Change) → Does prog s p c → c.trap ≡ None → Good s → Good (apply c s)) where
    after_step : (m : Machine) (w : ℕ) → m.trapped ≡ None → Good m.core → (after : Machine) → event prog workers (Step w) m ≡ Some after → after.trapped ≡ None → Good after.core
    after_step m w fine good after e then = by_place (m.hands w) refl
      where
        by_place : (o : Option Path) → m.hands w ≡ o → Good after.core
        by_place None here = absurd (let h : event prog workers (Step w) m ≡ None = not_trapped m.trapped _ fine ∙ rw here refl in cc)
        by_place (Some p) here = by_there (m.core.frames p) refl
          where
            by_there : (o : Option Frame) → m.core.frames p ≡ o → Good after.core
            by_there None is = absurd (let h : event prog workers (Step w) m ≡ None = not_trapped m.trapped _ fine ∙ rw (here, is) refl in cc)
            by_there (Some f) is =
                let n : Next m w p f = by_step m w p f here is fine after (ap (λ (x : Option Machine). or_unchanged x m) e) then in
                let same : n.after ≡ after = (let both : Some n.after ≡ Some after = sym n.is ∙ e in cc) in
                subst Good (sym n.core ∙ ap (λ (x : Machine). x.core) same) (kept m.core p n.change n.does n.fine good)

    after_event : (m : Machine) (e : Event) → m.trapped ≡ None → Good m.core → (after : Machine) → event prog workers e m ≡ Some after → after.trapped ≡ None → Good after.core
    after_event m (Step w) fine good after is then = after_step m w fine good after is then
    after_event m (Steal w t) fine good after is then =
        let same : (stolen m w t).core ≡ after.core = chosen_core (stolen m w t) after (ltb w workers && is_none (m.hands w)) (status_of workers m t) (sym (not_trapped m.trapped _ fine) ∙ is) in
        subst Good same good

    by_event : (m : Machine) (e : Event) → m.trapped ≡ None → Good m.core → (o : Option Machine) → event prog workers e m ≡ o → (or_unchanged o m).trapped ≡ None → Good (or_unchanged o m).core
    by_event m e fine good None is then = good
    by_event m e fine good (Some after) is then = after_event m e fine good after is then

    pub replay_good : (events : List Event) (m : Machine) → NeverTraps prog workers m → Good m.core → Good (replay prog workers events m).core
    replay_good [] m never good = good
    replay_good (e ∷ events) m never good =
        replay_good events (or_unchanged (event prog workers e m) m) (λ more. never (e ∷ more))
        (by_event m e (never []) good (event prog workers e m) refl (never (e ∷ [])))

-- A worker's frame that goes on by plain steps: what it leaves of the machine, and that it stays safe.
use Rattle.std.proofs.Common.{◌≡◌, ◌≢◌, ℕ, suc, [], ◌∷◌, Option, Some, None, Bool, true, false, cond, inl, inr, refl, sym, ap, ◌∙◌, subst, arith, max, ℤ}
use Rattle.std.specs.Prelude.{IsSome}
use Rattle.std.proofs.lemmas.Bool.Decides.{eqb_tells}
use Rattle.semantics.specs.Paths.{Path}
use Rattle.semantics.specs.Cells.{Object, Shared, Local, Memory}
use Rattle.semantics.specs.Frames.{Frame}
use Rattle.semantics.specs.Effect.{Effect, Plain, action_of}
use Rattle.semantics.specs.State.{override, went, plain_change, may_go, act, apply, change_of, change_of_frame}
use Rattle.semantics.specs.Events as running
use Rattle.semantics.specs.Events.{Machine, Event, Step, event}
use Rattle.semantics.specs.Replay.{or_unchanged, replay}
use Rattle.semantics.proofs.Steps.{change_is, plain}
use Rattle.semantics.proofs.Places.{same_path_tells, only_here, only_off}
use Rattle.semantics.proofs.ChildCounts.{moved_alone}
use Rattle.semantics.specs.Counts.{count_of}
use Rattle.program.specs.declared.function.Program.{Program}
use Rattle.frame_engine.specs.Shows.{Layout, PlainSteps, here, more, Safe, StaysSafe, memory_after}
use Rattle.frame_engine.proofs.Runs.{zero_steps}
use Rattle.schedule_workers.specs.Layouts.{alloca_cells, living}
use Rattle.schedule_workers.specs.Going.{CanGo, CanStep, RunsSafely}

module _ (prog : Program) (workers : ℕ) where
  pub safe_next : (m next : Machine) (e : Event) → event prog workers e m ≡ Some next → RunsSafely prog workers m → RunsSafely prog workers next
  safe_next m next e is safe events = subst (λ (o : Option Machine). CanGo prog (replay prog workers events (or_unchanged o m))) is (safe (e ∷ events))

  module _ (w : ℕ) (p : Path) where
    -- the worker's frame stands here, in a machine from which each schedule is safe
    pub record IsStanding (m : Machine) (f : Frame) (k : Memory) : Type 0 where
      pub safe : RunsSafely prog workers m
      pub sound : m.trapped ≡ None
      pub hand : m.hands w ≡ Some p
      pub frame : m.core.frames p ≡ Some f
      pub memory : m.core.memory ≡ k

    pub may_go_on : (m : Machine) (f : Frame) → m.core.frames p ≡ Some f → IsSome (change_of prog m.core p) → may_go m.core p f.made f.waits ≡ true
    may_go_on m f is goes = from (may_go m.core p f.made f.waits) refl (subst (λ (o : Option Frame). IsSome (change_of_frame prog m.core p o)) is goes)
      where
        from : (b : Bool) → may_go m.core p f.made f.waits ≡ b → IsSome (cond (may_go m.core p f.made f.waits) (act m.core p f (action_of prog p f m.core.memory)) None) → may_go m.core p f.made f.waits ≡ true
        from true e h = e
        from false e h = absurd (let none : IsSome (cond false (act m.core p f (action_of prog p f m.core.memory)) None) = rw e at h in cc)

    pub can_step : (m : Machine) (f : Frame) (k : Memory) → IsStanding m f k → CanStep prog m p f
    can_step m f k s = (s.safe []).steps w p f s.hand s.frame

    -- what a plain step of the frame leaves
    pub record Stepped (m : Machine) (f : Frame) (k : Memory) (e : Effect) : Type 0 where
      pub next : Machine
      pub event : event prog workers (Step w) m ≡ Some next
      pub standing : IsStanding next (went f e) (memory_after e k)
      pub elsewhere : (q : Path) → p ≢ q → next.core.frames q ≡ m.core.frames q
      pub hands : (v : ℕ) → next.hands v ≡ m.hands v
      pub done : next.core.done ≡ suc m.core.done
      pub peak : next.core.peak ≡ m.core.peak
      pub result : next.core.result ≡ m.core.result
      pub living : (o : Object) → living prog next.core o ≡ living prog m.core o
      pub counts : (q : Path) (r : ℕ) → count_of next.core q r ≡ count_of m.core q r

    pub hand_again : (hands : ℕ → Option Path) → hands w ≡ Some p → (v : ℕ) → running.with_hand hands w (Some p) v ≡ hands v
    hand_again hands has v = elim (eqb_tells w v) [ inl h ↦ rw h.0 (sym (subst (λ k. hands k ≡ Some p) h.1 has)) | inr h ↦ rw h.0 refl ]

    pub step_on : (m : Machine) (f : Frame) (k : Memory) (e : Effect) → IsStanding m f k → action_of prog p f k ≡ Plain e → e.trap ≡ None → Stepped m f k e
    step_on m f k e s act fine = record {
      next = next;
      event = happens;
      standing = record {
        safe = safe_next m next (Step w) happens s.safe;
        sound = fine;
        hand = hand_again m.hands s.hand w ∙ s.hand;
        frame = now;
        memory = ap (memory_after e) s.memory;
      };
      elsewhere = off;
      hands = hand_again m.hands s.hand;
      done = refl;
      peak = no_depth m.core.peak;
      result = refl;
      living = lives;
      counts = moved_alone prog m.core (s.safe []).tree p (plain_change p f e) f (went f e) refl s.frame refl refl;
    }
      where
        next : Machine
        next = running.stepped m w (plain_change p f e) (Some p)

        no_depth : (n : ℕ) → max n 0 ≡ n
        no_depth n = omega arith

        there : action_of prog p f m.core.memory ≡ Plain e
        there = ap (action_of prog p f) s.memory ∙ act

        change : change_of prog m.core p ≡ Some (plain_change p f e)
        change = change_is prog m.core p (plain_change p f e) (plain f e s.frame (may_go_on m f s.frame (can_step m f k s).goes) there)

        happens : event prog workers (Step w) m ≡ Some next
        happens =
            ap (λ t. running.unless_trapped t (running.by_hand prog workers m w (m.hands w))) s.sound
            ∙ ap (running.by_hand prog workers m w) s.hand
            ∙ ap (running.by_frame prog workers m w p) s.frame
            ∙ ap (λ o. Some (running.by_change prog workers m w p f o)) change
            ∙ ap (λ a. Some (running.stepped m w (plain_change p f e) (running.next_hand workers m (apply (plain_change p f e) m.core) p f a))) there

        now : next.core.frames p ≡ Some (went f e)
        now = ap (λ o. override o (m.core.frames p)) (only_here p (Some (went f e)))

        off : (q : Path) → p ≢ q → next.core.frames q ≡ m.core.frames q
        off q away = ap (λ o. override o (m.core.frames q)) (only_off p q (Some (went f e)) away)

        lives : (o : Object) → living prog next.core o ≡ living prog m.core o
        lives (Shared g) = refl
        lives (Local owner a) =
            elim (same_path_tells p owner) [
              | inl h ↦ subst (λ q. alloca_cells prog (next.core.frames q) a ≡ alloca_cells prog (m.core.frames q) a) h.1 (ap (λ o. alloca_cells prog o a) now ∙ sym (ap (λ o. alloca_cells prog o a) s.frame))
              | inr h ↦ ap (λ o. alloca_cells prog o a) (off owner h.1)
            ]

    -- ---- wherever plain steps lead

    record StoodOn (m : Machine) (g : Frame) (i : Memory) : Type 0 where
      machine : Machine
      standing : IsStanding machine g i
      living : (o : Object) → living prog machine.core o ≡ living prog m.core o

    stand_on : (m : Machine) (f : Frame) (k : Memory) → IsStanding m f k → (n : ℕ) (g : Frame) (i : Memory) → PlainSteps prog p f k n g i → StoodOn m g i
    stand_on m f k s n g i here = record { machine = m; standing = s; living = λ o. refl }
    stand_on m f k s n g i (more {n = j} {g = h} {k = l} e steps act fine) =
        let b = stand_on m f k s j h l steps in
        let t = step_on b.machine h l e b.standing act fine in
        record { machine = t.next; standing = t.standing; living = λ o. t.living o ∙ b.living o }

    pub stays_safe : (at : Object → ℤ) (m : Machine) (f : Frame) (k : Memory) → IsStanding m f k → StaysSafe prog (record { at = at; cells = living prog m.core }) p f k
    stays_safe at m f k s n g i steps =
        let b = stand_on m f k s n g i steps in
        let layout : record { at = at; cells = living prog b.machine.core } ≡ record { at = at; cells = living prog m.core } = (λ j. record { at = at; cells = λ o. b.living o j }) in
        subst (λ (l : Layout). Safe prog l p g i) layout
        (subst (λ (x : Memory). Safe prog (record { at = at; cells = living prog b.machine.core }) p g x) b.standing.memory ((can_step b.machine g i b.standing).safe at))

    -- ---- one step

    -- the step that led here
    pub record Led (f : Frame) (k : Memory) (g : Frame) (i : Memory) : Type 0 where
      pub effect : Effect
      pub act : action_of prog p f k ≡ Plain effect
      pub fine : effect.trap ≡ None
      pub frame : g ≡ went f effect
      pub memory : i ≡ memory_after effect k

    pub one_step : (f : Frame) (k : Memory) (n : ℕ) (g : Frame) (i : Memory) → PlainSteps prog p f k n g i → n ≡ 1 → Led f k g i
    one_step f k n g i here e = absurd cc
    one_step f k n g i (more {n = j} {g = h} {k = l} effect s act fine) e =
        let none : j ≡ 0 = omega (arith, e) in
        let z = zero_steps prog p f k j h l s none in
        record {
          effect = effect;
          act = (λ x. action_of prog p (z.0 x) (z.1 x)) ∙ act;
          fine = fine;
          frame = ap (λ x. went x effect) (sym z.0);
          memory = ap (memory_after effect) (sym z.1);
        }

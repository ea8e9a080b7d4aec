-- Every schedule of a checked program is a run of the core, and so bounded by the serial one.
use Rattle.std.proofs.Common.{◌≡◌, ◌≢◌, ℕ, suc, ◌+◌, ◌*◌, ◌≤◌, ◌<◌, List, [], ◌∷◌, ◌++◌, length, Option, Some, None, Bool, true, false, inl, inr, refl, sym, ap, ◌∙◌, subst, arith, mul-le-mul_left, is_none, is_some, ℤ}
use Rattle.std.proofs.lemmas.Bool.Decides.{eqb_tells}
use Rattle.semantics.specs.Paths.{Path}
use Rattle.semantics.specs.Arithmetic.{Trap}
use Rattle.semantics.specs.Frames.{Halted, Frame}
use Rattle.semantics.specs.Effect.{Action, Plain, Detach, Reattach, Sync, Call, Return, action_of}
use Rattle.semantics.specs.State.{State, Change, apply, act, return_from, return_change, reattach_change, went}
use Rattle.semantics.specs.State.{childless, change_of}
use Rattle.semantics.specs.CoreSteps.{core_step}
use Rattle.semantics.specs.Tree.{Tree}
use Rattle.laws_conditions.specs.theorem.Conditions.{Zone, Going, StaysInZone, PassesZonesOn, ClosesRegions}
use Rattle.semantics.specs.SerialMeaning.{Gave, Outcome}
use Rattle.semantics.specs.Events.{Machine, Event, Step, Steal, event, sound_event, unless_trapped, by_hand, by_frame, by_change, stepped, next_hand, with_hand}
use Rattle.semantics.specs.Replay.{or_unchanged, replay, has_ended}
use Rattle.laws_conditions.specs.theorem.Schedules.{worker_of, NoneBy, Undisturbed, KeepsSchedule}
use Rattle.semantics.proofs.Confluence.{Run, Kept, kept_by_run}
use Rattle.semantics.proofs.Actions.{return_is_body}
use Rattle.semantics.proofs.Places.{only_here}
use Rattle.semantics.proofs.Steps.{Does, plain, detach, reattach, sync, call, ret, end, does}
use Rattle.semantics.proofs.Diamond.{Goes, own_kept, no_trap_after}
use Rattle.semantics.proofs.TreeKept.{step_keeps_tree}
use Rattle.laws_conditions.proofs.theorem.Feet.{Footed, going_now}
use Rattle.laws_conditions.proofs.theorem.FeetKept.{step_footed}
use Rattle.laws_conditions.proofs.theorem.Sound.{changed, Sound, Bounded, bounded}
use Rattle.laws_conditions.proofs.theorem.Undisturbed.{steps_stay, cell_stays}
use Rattle.laws_conditions.proofs.theorem.Closed.{span, Holds, no_more, closes_passes, bare}
use Rattle.semantics.proofs.Workers.{Manned}
use Rattle.semantics.proofs.Machines.{step_manned, Found, found, stolen_manned}
use Rattle.laws_conditions.proofs.theorem.Leaves.{leaf_below, busy, few_frames}
use Rattle.program.specs.declared.function.Program.{Program}

untrapped : {prog : Program} {s : State} {p : Path} {c : Change} → Does prog s p c → ((f : Frame) → (apply c s).frames p ≡ Some f → f.waits ≢ Halted) → c.trap ≡ None
untrapped {p = p} (plain f e is go at) safe = no_trap_after e.trap (safe (went f e) (rw (only_here p (Some (went f e)))))
untrapped (detach f r b n is go at) safe = refl
untrapped (reattach f r n is go at none role) safe = refl
untrapped (sync f r b rs is go at) safe = refl
untrapped (call f d g vs is go at) safe = refl
untrapped (ret f v k above g j d is go at none role here over waits) safe = refl
untrapped (end f v is go at none role here) safe = refl

pub not_trapped : (t : Option Trap) (next : Option Machine) → t ≡ None → unless_trapped t next ≡ next
not_trapped None next e = refl
not_trapped (Some t) next e = absurd (cc)

step_enabled : (prog : Program) (workers : ℕ) (m : Machine) (w : ℕ) (p : Path) (f : Frame) (c : Change) → m.hands w ≡ Some p → m.core.frames p ≡ Some f → change_of prog m.core p ≡ Some c →
    sound_event prog workers (Step w) m ≡ Some (stepped m w c (next_hand workers m (apply c m.core) p f (action_of prog p f m.core.memory)))
step_enabled prog workers m w p f c here is ch = rw (here, is, ch)

-- a frame that may go, and has no child at an end, does its next instruction
moves : (prog : Program) (s : State) (p : Path) → Tree s → (go : Goes s p) → ((r : ℕ) → action_of prog p go.frame s.memory ≡ Reattach r → childless s p go.frame.made ≡ true) → ((v : Option ℤ) → action_of prog p go.frame s.memory ≡ Return v → childless s p go.frame.made ≡ true) →
    (c : Change) × (change_of prog s p ≡ Some c)
moves prog s p tree go at_left at_return = let (c, is) = by_action (action_of prog p go.frame s.memory) refl in (c, rw (go.is, go.may) is)
  where
    by_path : (v : Option ℤ) → action_of prog p go.frame s.memory ≡ Return v → (x : Path) → p ≡ x → (c : Change) × (return_from s x v ≡ Some c)
    by_path v at [] e = (_, refl)
    by_path v at (k ∷ above) e =
        let (g, d, over, wait) = tree.awaited k above go.frame (subst (λ x. s.frames x ≡ Some go.frame) e go.is) (return_is_body prog p go.frame s.memory v at) in
        (return_change (k ∷ above) above g d v, rw (over, wait))

    by_action : (a : Action) → action_of prog p go.frame s.memory ≡ a → (c : Change) × (act s p go.frame a ≡ Some c)
    by_action (Plain e) at = (_, refl)
    by_action (Detach r b n) at = (_, refl)
    by_action (Reattach r) at = (reattach_change p, rw (at_left r at))
    by_action (Sync r b rs) at = (_, refl)
    by_action (Call d g vs) at = (_, refl)
    by_action (Return v) at = let (c, is) = by_path v at p refl in (c, rw (at_return v at) is)

module _ {ℓ} (Z : Type ℓ) (zone : Z → Zone) (prog : Program) (fits : Path → Frame → Z → Type 0) (pending : Path → Frame → ℕ → Z) (expects : Frame → Z → Type 0) (inside : StaysInZone Z zone prog fits pending) (passes : PassesZonesOn Z zone prog fits pending expects)
    (holds : Path → Frame → Type 0) (opens : Path → Frame → ℕ → Bool) (closes : ClosesRegions prog holds opens) where
  abbrev SoundHere : State → Type ℓ
  SoundHere s = Sound Z zone prog fits pending expects inside passes s

  abbrev HoldsHere : Path → Frame → Bool → Type 0
  HoldsHere = Holds prog holds opens closes

  -- what is kept of regions
  pub record Shut (s : State) : Type 0 where
    pub tree : Tree s
    pub feet : Path → Bool
    pub footed : Footed Bool span HoldsHere opens (no_more prog holds opens closes) s feet

  shut_kept : Kept (λ p s. core_step prog p s) Shut
  shut_kept p s t shut e =
      let (c, ch, is) = changed prog p s t e in
      let dp = does prog s p c ch in
      let (next, footed) = step_footed Bool span prog HoldsHere opens (no_more prog holds opens closes) (closes_passes prog holds opens closes) s shut.tree shut.feet shut.footed p c dp in
      subst Shut (sym is) (record { tree = step_keeps_tree shut.tree dp; feet = next; footed = footed })

  -- where no frame has trapped, a frame that may go does its next instruction
  goes_further : (s : State) (p : Path) → Shut s → ((x : Path) (f : Frame) → s.frames x ≡ Some f → f.waits ≢ Halted) → Goes s p → (c : Change) × (change_of prog s p ≡ Some c)
  goes_further s p shut safe go =
      let h : holds p go.frame = (shut.footed.own p go.frame go.is (safe p go.frame go.is)).0 in
      let g : Going go.frame = going_now s p go.frame go.may in
      moves prog s p shut.tree go
      (λ r at. bare prog holds opens closes s shut.tree shut.feet shut.footed p go (λ q. closes.reattach_closed p go.frame s.memory r q h g at) safe go.frame.made)
      (λ v at. bare prog holds opens closes s shut.tree shut.feet shut.footed p go (λ q. closes.return_closed p go.frame s.memory v q h g at) safe go.frame.made)

  module _ (first : State) (sound : SoundHere first) (shut : Shut first) (serial : List Path) (last : State) (run : Run (λ p s. core_step prog p s) serial first last) (none : last.frames [] ≡ None) (workers : ℕ) where
    -- a machine that a schedule has led to
    pub record Reached (m : Machine) : Type 0 where
      pub labels : List Path
      pub run_to : Run (λ p s. core_step prog p s) labels first m.core
      pub manned : Manned workers m.core m.hands
      pub fine : m.trapped ≡ None

    facts : (m : Machine) → Reached m → Bounded Z zone prog fits pending expects inside passes first last (length serial) m.core
    facts m r = bounded Z zone prog fits pending expects inside passes first sound serial last run none r.labels m.core r.run_to

    shut_at : (m : Machine) → Reached m → Shut m.core
    shut_at m r = kept_by_run (λ p s. core_step prog p s) Shut shut_kept r.labels first m.core shut r.run_to

    -- the events that are enabled
    data Turn (m : Machine) (r : Reached m) : Event → Machine → Type 0 where
      is_step : (w : ℕ) (p : Path) (c : Change) (f : Frame) → m.hands w ≡ Some p → m.core.frames p ≡ Some f → change_of prog m.core p ≡ Some c →
          Turn m r (Step w) (stepped m w c (next_hand workers m (apply c m.core) p f (action_of prog p f m.core.memory)))
      is_steal : (w : ℕ) (t : Path) (after : Machine) → Found workers m r.manned w t after → Turn m r (Steal w t) after

    turn : (m : Machine) (r : Reached m) (e : Event) (after : Machine) → event prog workers e m ≡ Some after → Turn m r e after
    turn m r e after h = by_event e (sym (not_trapped m.trapped (sound_event prog workers e m) r.fine) ∙ h)
      where
        safe : (x : Path) (f : Frame) → m.core.frames x ≡ Some f → f.waits ≢ Halted
        safe = (facts m r).safe

        with_change : (w : ℕ) (p : Path) (f : Frame) → m.hands w ≡ Some p → m.core.frames p ≡ Some f → (o : Option Change) → change_of prog m.core p ≡ o → Some (by_change prog workers m w p f o) ≡ Some after → Turn m r (Step w) after
        with_change w p f here is None ch k = absurd (let (c, there) = goes_further m.core p (shut_at m r) safe (r.manned.goers w p here) in cc)
        with_change w p f here is (Some c) ch k = let made : by_change prog workers m w p f (Some c) ≡ after = cc in subst (λ x. Turn m r (Step w) x) made (is_step w p c f here is ch)

        with_frame : (w : ℕ) (p : Path) → m.hands w ≡ Some p → (o : Option Frame) → m.core.frames p ≡ o → by_frame prog workers m w p o ≡ Some after → Turn m r (Step w) after
        with_frame w p here None is k = absurd (cc)
        with_frame w p here (Some f) is k = with_change w p f here is (change_of prog m.core p) refl k

        with_place : (w : ℕ) (o : Option Path) → m.hands w ≡ o → by_hand prog workers m w o ≡ Some after → Turn m r (Step w) after
        with_place w None here k = absurd (cc)
        with_place w (Some p) here k = with_frame w p here (m.core.frames p) refl k

        by_event : (e : Event) → sound_event prog workers e m ≡ Some after → Turn m r e after
        by_event (Step w) k = with_place w (m.hands w) refl k
        by_event (Steal w t) k = is_steal w t after (found workers m r.manned prog w t after k)

    run_append : (ps qs : List Path) (s t u : State) → Run (λ p x. core_step prog p x) ps s t → Run (λ p x. core_step prog p x) qs t u → Run (λ p x. core_step prog p x) (ps ++ qs) s u
    run_append [] qs s t u e k = subst (λ x. Run (λ p y. core_step prog p y) qs x u) (sym e) k
    run_append (p ∷ ps) qs s t u (mid, e, rest) k = (mid, e, run_append ps qs mid t u rest k)

    stepped_reached : (m : Machine) → Reached m → (w : ℕ) (p : Path) (c : Change) (f : Frame) → m.hands w ≡ Some p → m.core.frames p ≡ Some f → change_of prog m.core p ≡ Some c →
        Reached (stepped m w c (next_hand workers m (apply c m.core) p f (action_of prog p f m.core.memory)))
    stepped_reached m r w p c f here is ch =
        let dp = does prog m.core p c ch in
        let longer : Run (λ q x. core_step prog q x) (r.labels ++ p ∷ []) first (apply c m.core) = run_append r.labels (p ∷ []) first m.core (apply c m.core) r.run_to (apply c m.core, rw ch, refl) in
        let then = bounded Z zone prog fits pending expects inside passes first sound serial last run none (r.labels ++ p ∷ []) (apply c m.core) longer in
        let good : c.trap ≡ None = untrapped dp (λ g there. then.safe p g there) in
        record { labels = r.labels ++ p ∷ []; run_to = longer; manned = step_manned prog workers m r.manned w p here c dp good f is; fine = good }

    stolen_reached : (m : Machine) (r : Reached m) (w : ℕ) (t : Path) (after : Machine) → Found workers m r.manned w t after → Reached after
    stolen_reached m r w t after f = subst Reached f.made (record { labels = r.labels; run_to = r.run_to; manned = stolen_manned workers m r.manned w t after f; fine = r.fine })

    turned : (m : Machine) (r : Reached m) (e : Event) (after : Machine) → Turn m r e after → Reached after
    turned m r e after (is_step w p c f here is ch) = stepped_reached m r w p c f here is ch
    turned m r e after (is_steal w t next f) = stolen_reached m r w t next f

    event_reached : (m : Machine) → Reached m → (e : Event) (o : Option Machine) → event prog workers e m ≡ o → Reached (or_unchanged o m)
    event_reached m r e None h = r
    event_reached m r e (Some after) h = turned m r e after (turn m r e after h)

    pub replay_reached : (events : List Event) (m : Machine) → Reached m → Reached (replay prog workers events m)
    replay_reached [] m r = r
    replay_reached (e ∷ events) m r = replay_reached events (or_unchanged (event prog workers e m) m) (event_reached m r e (event prog workers e m) refl)

    -- ---- a worker is undisturbed

    quiet : (m : Machine) (w : ℕ) (p : Path) → m.hands w ≡ Some p → Undisturbed prog m m w p
    quiet m w p here = record { hand = here; frame = refl; steps = λ cs t h. (t, h); cells = λ cs t x h k. refl }

    further : (m mid later : Machine) (w : ℕ) (p : Path) → Undisturbed prog m mid w p → Undisturbed prog mid later w p → Undisturbed prog m later w p
    further m mid later w p a b = record {
      hand = b.hand;
      frame = b.frame ∙ a.frame;
      steps = λ cs t h. let (u, k) = a.steps cs t h in b.steps cs u k;
      cells = λ cs t x h k. let (u, j) = a.steps cs t h in b.cells cs u x j k ∙ a.cells cs t x h k;
    }

    other_hand : (hands : ℕ → Option Path) (v w : ℕ) (next : Option Path) → v ≢ w → with_hand hands v next w ≡ hands w
    other_hand hands v w next apart = elim (eqb_tells v w) [ inl h ↦ absurd (apart h.1) | inr h ↦ rw h.0 ]

    by_turn : (m : Machine) (r : Reached m) (e : Event) (after : Machine) (w : ℕ) (p : Path) → m.hands w ≡ Some p → worker_of e ≢ w → Turn m r e after → Undisturbed prog m after w p
    by_turn m r e after w p here apart (is_step v q d f has is ch) =
        let dq = does prog m.core q d ch in
        let differ : p ≢ q = λ same. apart (r.manned.alone v w p (subst (λ x. m.hands v ≡ Some x) (sym same) has) here) in
        let differ2 : q ≢ p = λ same. differ (sym same) in
        let s = (facts m r).sound in
        let go = r.manned.goers w p here in
        record {
          hand = other_hand m.hands v w _ apart ∙ here;
          frame = own_kept s.tree differ2 dq go go.frame go.is ∙ sym go.is;
          steps = λ cs t h. (apply d t, steps_stay Z zone prog fits pending expects inside passes p q differ cs m.core t d s h dq);
          cells = λ cs t x h k. cell_stays Z zone prog fits pending expects inside passes p q differ cs m.core t d x s h dq k;
        }
    by_turn m r e after w p here apart (is_steal v t next f) =
        subst (λ x. Undisturbed prog m x w p) f.made (record { hand = other_hand m.hands v w _ apart ∙ here; frame = refl; steps = λ cs t h. (t, h); cells = λ cs t x h k. refl })

    by_event : (m : Machine) (r : Reached m) (e : Event) (w : ℕ) (p : Path) → m.hands w ≡ Some p → worker_of e ≢ w → (o : Option Machine) → event prog workers e m ≡ o → Undisturbed prog m (or_unchanged o m) w p
    by_event m r e w p here apart None h = quiet m w p here
    by_event m r e w p here apart (Some after) h = by_turn m r e after w p here apart (turn m r e after h)

    undisturbed : (events : List Event) (m : Machine) → Reached m → (w : ℕ) (p : Path) → m.hands w ≡ Some p → NoneBy w events → Undisturbed prog m (replay prog workers events m) w p
    undisturbed [] m r w p here tt = quiet m w p here
    undisturbed (e ∷ events) m r w p here (apart, rest) =
        let one = by_event m r e w p here apart (event prog workers e m) refl in
        let next = or_unchanged (event prog workers e m) m in
        further m next _ w p one (undisturbed events next (event_reached m r e (event prog workers e m) refl) w p one.hand rest)

    -- ---- what is kept

    ended_is : (m : Machine) → has_ended m ≡ true → m.core.frames [] ≡ None
    ended_is m = from (m.core.frames [])
      where
        from : (o : Option Frame) → is_none o ≡ true → o ≡ None
        from None e = refl
        from (Some f) e = absurd (cc)

    going_is : (m : Machine) → has_ended m ≡ false → (f : Frame) × (m.core.frames [] ≡ Some f)
    going_is m = from (m.core.frames [])
      where
        from : (o : Option Frame) → is_none o ≡ false → (f : Frame) × (o ≡ Some f)
        from None e = absurd (cc)
        from (Some f) e = (f, refl)

    some_there : (o : Option Frame) → is_some o ≡ true → (f : Frame) × (o ≡ Some f)
    some_there None e = absurd (cc)
    some_there (Some f) e = (f, refl)

    -- a step of a worker that is enabled
    record Enabled (m : Machine) : Type 0 where
      worker : ℕ
      next : Machine
      within : worker < workers
      is : event prog workers (Step worker) m ≡ Some next
      reached : Reached next
      more : next.core.done ≡ suc m.core.done

    by_worker : (m : Machine) → Reached m → (w : ℕ) (y : Path) (g : Frame) (c : Change) → w < workers → m.hands w ≡ Some y → m.core.frames y ≡ Some g → change_of prog m.core y ≡ Some c → Enabled m
    by_worker m r w y g c lt here there ch = record {
      worker = w;
      next = stepped m w c (next_hand workers m (apply c m.core) y g (action_of prog y g m.core.memory));
      within = lt;
      is = not_trapped m.trapped (sound_event prog workers (Step w) m) r.fine ∙ step_enabled prog workers m w y g c here there ch;
      reached = stepped_reached m r w y c g here there ch;
      more = refl;
    }

    by_leaf : (m : Machine) → Reached m → (y : Path) (g : Frame) → m.core.frames y ≡ Some g → childless m.core y g.made ≡ true → Enabled m
    by_leaf m r y g there leaf =
        let (w, lt, here) = busy workers m.core m.hands r.manned y g there leaf in
        let (c, ch) = goes_further m.core y (shut_at m r) (facts m r).safe (r.manned.goers w y here) in
        by_worker m r w y g c lt here there ch

    -- until the end some worker's step is enabled, and does one instruction
    enabled : (m : Machine) → Reached m → has_ended m ≡ false → Enabled m
    enabled m r going =
        let (f, is) = going_is m going in
        let b = facts m r in
        let (y, g, there, leaf, under) = leaf_below m.core b.sound.tree b.sound.deep m.core.peak [] f is (omega arith) in
        by_leaf m r y g there leaf

    pub kept : (o : Outcome) → length serial ≡ o.count → last.memory ≡ o.memory → last.peak ≡ o.depth → o.ending ≡ Gave last.result → first.done ≡ 0 → (m : Machine) → Reached m → KeepsSchedule prog workers o m
    kept o count memory peak result zero_done m r =
        let b = facts m r in
        let done : m.core.done ≤ first.done + length serial = b.budget in
        record {
          no_trap = (r.fine, b.safe);
          within_budget = omega arith;
          few_frames = λ n counts.
              let few : length counts.living ≤ workers * m.core.peak =
              few_frames workers m.core m.hands r.manned b.sound.deep counts.living counts.distinct (λ x member. some_there (m.core.frames x) (sym (counts.all x) ∙ member)) in
              let high : workers * m.core.peak ≤ workers * o.depth = mul-le-mul_left workers (subst (λ d. m.core.peak ≤ d) peak b.peak) in
              let is : n ≡ length counts.living = counts.count in
              omega (arith, few, high);
          same_memory = λ gone. ap (λ (s : State). s.memory) (b.ended (ended_is m gone)).0 ∙ memory;
          same_result = λ gone. result ∙ ap (λ (s : State). Gave s.result) (sym (b.ended (ended_is m gone)).0);
          same_count = λ gone. let d : m.core.done ≡ first.done + length serial = (b.ended (ended_is m gone)).1 in omega arith;
          same_peak = λ gone. ap (λ (s : State). s.peak) (b.ended (ended_is m gone)).0 ∙ peak;
          busy_leaves = λ p f is leaf. busy workers m.core m.hands r.manned p f is leaf;
          goes_on = λ going. let e = enabled m r going in (e.worker, e.next, e.within, e.is);
          ends_in_time = ends_in_time;
          undisturbed = λ w p others here alone. undisturbed others m r w p here alone;
        }
      where
        ends_in_time : m.core.done ≡ o.count → has_ended m ≡ true
        ends_in_time full = from (has_ended m) refl
          where
            from : (b : Bool) → has_ended m ≡ b → has_ended m ≡ true
            from true e = e
            from false e =
                let step = enabled m r e in
                let more : step.next.core.done ≤ first.done + length serial = (facts step.next step.reached).budget in
                let one : step.next.core.done ≡ suc m.core.done = step.more in
                absurd (omega arith)

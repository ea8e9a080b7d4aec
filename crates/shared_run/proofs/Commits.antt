-- What a commit answers, from what the machine says of the strand.
use Rattle.std.proofs.Common.{◌≡◌, ◌↔◌, ℕ, zero, suc, ◌+◌, ◌<◌, ◌^◌, List, [], ◌∷◌, ◌++◌, length, length-append, map, replicate, Option, Some, None, Bool, true, refl, sym, ap, ◌∙◌, subst, arith}
use Rattle.std.specs.Prelude.{IsSome, IsTrue, IfSome, IfNone, is_none}
use Rattle.std.specs.Option.{option_map}
use Rattle.std.proofs.lemmas.List.{length-replicate, map-append}
use Rattle.semantics.specs.Paths.{Path as RunningPath}
use Rattle.semantics.specs.Events as running
use Rattle.semantics.specs.Events.{Machine, event}
use Rattle.semantics.specs.Replay.{or_unchanged, replay}
use Rattle.program.specs.declared.function.Program.{Program}
use Rattle.schedule_core.specs.schedule_commit.Absorbing.{steps_in}
use Rattle.schedule_core.specs.schedule_commit.laws_strands.Law.{steps_by}
use Rattle.schedule_core.specs.frame_strand.declared.outside.FrameStrand.{FrameStrand}
use Rattle.schedule_core.specs.frame_strand.declared.standing.FrameStrandPause.{FrameStrandPause}
use Rattle.schedule_core.specs.frame_strand.declared.standing.FrameStrandPause.TheVariants.{Blank, Border, Limit, Full, Need}
use Rattle.schedule_core.specs.Parents.{HasNoReadyParent, IsReadyParent}
use Rattle.schedule_core.specs.Replaying.{AreEnabled, event_of}
use Rattle.schedule_core.specs.Stages.{program_of, workers_of}
use Rattle.schedule_core.specs.FrameStrands.{Absorbs, TakesSteps}
use Rattle.frame.specs.declared.event.Event.{Event}
use Rattle.frame.specs.declared.event.Event.TheVariants.{Step}
use Rattle.schedule_core.specs.declared.stage.Stage.{Stage}
use Rattle.schedule_core.proofs.Commits.{map_steps, replay_all}
use Rattle.schedule_core.specs.declared.ready.Ticket.{Ticket}
use Rattle.shared_run.specs.declared.answers.Committed.TheVariants as committed
use Rattle.shared_run.specs.Calls.{Absorbing, Appends, Commits, EndsInDetach, IsOneBelow, IsParents, before_border, depth_in}
use Rattle.shared_run.specs.Story.{IsLegal, Origin, SeatView, Story, first_of, reached, state_of}
use Rattle.shared_run.proofs.Bound.{room}
use Rattle.shared_run.proofs.Calls.{none_is, ready_exact, true_is}
use Rattle.shared_run.proofs.Stories.{manned_after, untrapped_after}

-- ---- many events are enabled

pub enabled_all : (program : Program) (workers : ℕ) (events more : List running.Event) (m : Machine) → AreEnabled program workers events m → AreEnabled program workers more (replay program workers events m) →
    AreEnabled program workers (events ++ more) m
enabled_all program workers [] more m all rest = rest
enabled_all program workers (d ∷ events) more m all rest = (all.0, enabled_all program workers events more (or_unchanged (event program workers d m) m) all.1 rest)

all_steps : (events : List Event) (n w : ℕ) → map event_of (events ++ replicate n (Step w)) ≡ map event_of events ++ steps_by w n
all_steps events n w = map-append event_of events (replicate n (Step w)) ∙ ap (λ (l : List running.Event). map event_of events ++ l) (map_steps n w)

-- the state after so many steps
pub reached_steps : (o : Origin) (events : List Event) (n w : ℕ) → reached o (events ++ replicate n (Step w)) ≡ replay o.program o.workers (steps_by w n) (reached o events)
reached_steps o events n w = ap (λ l. replay o.program o.workers l (first_of o)) (all_steps events n w) ∙ replay_all o.program o.workers (map event_of events) (steps_by w n) (first_of o)

module _ (o : Origin) (events : List Event) (stage : Stage) (legal : IsLegal o events stage) where
  -- the stage's module and workers are the start's
  here : (P : Program → ℕ → Type 0) → P (program_of stage) (workers_of stage) → P o.program o.workers
  here P p = subst (λ c. P o.program c) legal.replays.as_many (subst (λ (q : Program). P q (workers_of stage)) legal.replays.program p)

  module _ (new : Stage) (w n : ℕ) (a : TakesSteps stage new w n) where
    enabled_here : AreEnabled o.program o.workers (steps_by w n) (reached o events)
    enabled_here = here (λ q c. AreEnabled q c (steps_by w n) (reached o events)) (a.enabled (reached o events) legal.replays.state)

    -- with the steps appended
    pub legal_steps : (more : List Event) → more ≡ events ++ replicate n (Step w) → IsLegal o more new
    legal_steps more is = subst (λ (l : List Event). IsLegal o l new) (sym is) (record {
      replays = a.replays o.program o.arguments o.memory o.workers events legal.replays;
      enabled =
          subst (λ l. AreEnabled o.program o.workers l (first_of o)) (sym (all_steps events n w))
          (enabled_all o.program o.workers (map event_of events) (steps_by w n) (first_of o) legal.enabled enabled_here);
      manned = legal.manned;
      accepted = legal.accepted;
      taken = legal.taken;
      made = legal.made;
    })

    -- so there is room for their count
    pub room_for : length events + n < 2 ^ 64
    room_for =
        let r = room o (events ++ replicate n (Step w)) new (legal_steps (events ++ replicate n (Step w)) refl) in
        omega (arith, r, length-append events (replicate n (Step w)), length-replicate n (Step w))

  pub hand_here : (new : Stage) (w : ℕ) (x : FrameStrand) → Absorbs stage new w x →
      (replay o.program o.workers (steps_by w x.course.done) (reached o events)).hands w ≡ (reached o events).hands w
  hand_here new w x a =
      here (λ q c. (replay q c (steps_by w x.course.done) (reached o events)).hands w ≡ (reached o events).hands w) (a.hand (reached o events) legal.replays.state)

-- ---- the last step

some_is : {A : Type 0} (o : Option A) (b : Option A) → o ≡ b → IsSome o → (v : A) × (b ≡ Some v)
some_is (Some v) b is some = (v, sym is)
some_is None b is some = absurd (cc)

step_after : (program : Program) (workers w n : ℕ) (m : Machine) → AreEnabled program workers (steps_by w (suc n)) m →
    event program workers (running.Step w) (replay program workers (steps_by w n) m) ≡ Some (replay program workers (steps_by w (suc n)) m)
step_after program workers w zero m (some, rest) = from (event program workers (running.Step w) m) refl some
  where
    from : (o : Option Machine) → event program workers (running.Step w) m ≡ o → IsSome o → event program workers (running.Step w) m ≡ Some (or_unchanged (event program workers (running.Step w) m) m)
    from None is some = absurd (cc)
    from (Some next) is some = is ∙ ap Some (sym (ap (λ x. or_unchanged x m) is))
step_after program workers w (suc n) m (some, rest) = step_after program workers w n (or_unchanged (event program workers (running.Step w) m) m) rest

-- one below is not as deep
not_below : (before : Option ℕ) → IsOneBelow before before → ⊥
not_below before (depth, was, now) = let e : Some depth ≡ Some (depth + 1) = sym was ∙ now in let f : depth ≡ depth + 1 = cc in omega (arith, f)

-- ---- what is answered

module _ (s t : Story) (p q : SeatView) (legal : IsLegal s.start s.events s.stage) (after : IsLegal t.start t.events t.stage) (x : FrameStrand) (appends : Appends (replicate (steps_in x.pause x.course.done) (Step p.worker)) s t p q) (a : Absorbs s.stage t.stage p.worker x) where
  abbrev w : ℕ
  w = p.worker

  abbrev mid : Story
  mid = before_border s p x

  state_t : state_of t ≡ replay s.start.program s.start.workers (steps_by w (steps_in x.pause x.course.done)) (state_of s)
  state_t =
      ap (λ (o : Origin). reached o t.events) appends.start
      ∙ (ap (λ (l : List Event). reached s.start l) appends.events ∙ reached_steps s.start s.events (steps_in x.pause x.course.done) w)

  state_mid : state_of mid ≡ replay s.start.program s.start.workers (steps_by w x.course.done) (state_of s)
  state_mid = reached_steps s.start s.events x.course.done w

  depth_mid : depth_in (state_of mid) w ≡ depth_in (state_of s) w
  depth_mid =
      ap (λ o. option_map (λ (r : RunningPath). length r) o)
      (ap (λ (m : Machine). m.hands w) state_mid ∙ hand_here s.start s.events s.stage legal t.stage w x a)

  module _ (before : Option ℕ) (depth : before ≡ depth_in (state_of s) w) (ready : Option Ticket) (shown : IfSome ready (λ ticket. IsReadyParent t.stage.run (state_of t) w ticket.slot ticket.generation))
      (below : IfSome ready (λ ticket. IsOneBelow before (depth_in (state_of t) w)))
      (none : IfNone ready (IsOneBelow before (depth_in (state_of t) w) → HasNoReadyParent (workers_of t.stage) (state_of t) w)) where
    abbrev Answered : Option Ticket → Type 0
    Answered o = (IsSome o ↔ EndsInDetach s p x) × IfSome o (IsParents mid t w)

    -- plain steps leave the worker's frame in its hand
    plain : steps_in x.pause x.course.done ≡ x.course.done → (x.pause ≡ Some Border → ⊥) → Answered ready
    plain many off = from ready below
      where
        same : before ≡ depth_in (state_of t) w
        same =
            depth ∙ (sym depth_mid
            ∙ ap (λ (m : Machine). depth_in m w) (state_mid ∙ (ap (λ k. replay s.start.program s.start.workers (steps_by w k) (state_of s)) (sym many) ∙ sym state_t)))

        from : (o : Option Ticket) → IfSome o (λ ticket. IsOneBelow before (depth_in (state_of t) w)) → Answered o
        from None h = ((λ some. absurd (cc), λ ends. absurd (off ends.0)), tt)
        from (Some ticket) h = absurd (not_below before (subst (λ d. IsOneBelow before d) (sym same) h))

    at_border : x.pause ≡ Some Border → steps_in x.pause x.course.done ≡ suc x.course.done → Answered ready
    at_border is many =
        let prog = s.start.program in
        let workers = s.start.workers in
        let enabled : AreEnabled prog workers (steps_by w (suc x.course.done)) (state_of s) =
        subst (λ k. AreEnabled prog workers (steps_by w k) (state_of s)) many (enabled_here s.start s.events s.stage legal t.stage w (steps_in x.pause x.course.done) a.steps) in
        let done : event prog workers (running.Step w) (state_of mid) ≡ Some (state_of t) =
        ap (λ m. event prog workers (running.Step w) m) state_mid
        ∙ (step_after prog workers w x.course.done (state_of s) enabled
        ∙ ap Some (ap (λ k. replay prog workers (steps_by w k) (state_of s)) (sym many) ∙ sym state_t)) in
        let was : before ≡ depth_in (state_of mid) w = depth ∙ sym depth_mid in
        let crew : t.start.workers ≡ workers = ap (λ (o : Origin). o.workers) appends.start in
        let exact =
        ready_exact prog workers mid t w (manned_after s.start s.events s.stage legal mid.events) done (untrapped_after s.start s.events s.stage legal mid.events)
        (untrapped_after t.start t.events t.stage after t.events) after.replays.as_many crew ready shown
        (subst (λ d. IfSome ready (λ ticket. IsOneBelow d (depth_in (state_of t) w))) was below)
        (subst (λ d. IfNone ready (IsOneBelow d (depth_in (state_of t) w) → HasNoReadyParent (workers_of t.stage) (state_of t) w)) was none) in
        ((λ some. (is, exact.0.0 some), λ ends. exact.0.1 ends.1), exact.1)

    pub ready_by : Answered ready
    ready_by = by x.pause refl
      where
        steps : (o : Option FrameStrandPause) → x.pause ≡ o → steps_in x.pause x.course.done ≡ steps_in o x.course.done
        steps o is = ap (λ y. steps_in y x.course.done) is

        by : (o : Option FrameStrandPause) → x.pause ≡ o → Answered ready
        by None is = plain (steps None is) (λ e. let f : None ≡ Some Border = sym is ∙ e in cc)
        by (Some Blank) is = plain (steps (Some Blank) is) (λ e. let f : Some Blank ≡ Some Border = sym is ∙ e in cc)
        by (Some Limit) is = plain (steps (Some Limit) is) (λ e. let f : Some Limit ≡ Some Border = sym is ∙ e in cc)
        by (Some Full) is = plain (steps (Some Full) is) (λ e. let f : Some Full ≡ Some Border = sym is ∙ e in cc)
        by (Some (Need at)) is = plain (steps (Some (Need at)) is) (λ e. let f : Some (Need at) ≡ Some Border = sym is ∙ e in cc)
        by (Some Border) is = at_border is (steps (Some Border) is)

module _ (s t : Story) (p q : SeatView) (legal : IsLegal s.start s.events s.stage) (x : FrameStrand) (w : ℕ) (mine : w ≡ p.worker) where
  pub commits_done : (b : Bool) → b ≡ true → Absorbing x s t p q b → IsLegal t.start t.events t.stage → (before : Option ℕ) → before ≡ depth_in (state_of s) w → (ready : Option Ticket) →
      IfSome ready (λ ticket. IsReadyParent t.stage.run (state_of t) w ticket.slot ticket.generation) → IfSome ready (λ ticket. IsOneBelow before (depth_in (state_of t) w)) →
      IfNone ready (IsOneBelow before (depth_in (state_of t) w) → HasNoReadyParent (workers_of t.stage) (state_of t) w) →
      (idle : Bool) → idle ≡ is_none (depth_in (state_of t) w) → (ended : Bool) → IsTrue ended ↔ IsSome (state_of t).core.result → Commits x s t p q (committed.After ready idle ended)
  commits_done b is tries after before depth ready shown below none idle idle_is ended ended_is = from (subst (λ y. Absorbing x s t p q y) is tries)
    where
      from : Absorbing x s t p q true → Commits x s t p q (committed.After ready idle ended)
      from (fits, appends, absorbs) =
          let exact =
          ready_by s t p q legal after x appends absorbs before (subst (λ v. before ≡ depth_in (state_of s) v) mine depth) ready
          (subst (λ v. IfSome ready (λ ticket. IsReadyParent t.stage.run (state_of t) v ticket.slot ticket.generation)) mine shown)
          (subst (λ v. IfSome ready (λ ticket. IsOneBelow before (depth_in (state_of t) v))) mine below)
          (subst (λ v. IfNone ready (IsOneBelow before (depth_in (state_of t) v) → HasNoReadyParent (workers_of t.stage) (state_of t) v)) mine none) in (
            fits,
            appends,
            exact.0,
            exact.1,
            idle_is ∙ (none_is ((state_of t).hands w) ∙ ap (λ v. is_none ((state_of t).hands v)) mine),
            true_is ended (state_of t).core.result ended_is,
          )

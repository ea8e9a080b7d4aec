-- What the calls of a board answer, from what the machine says.
use Rattle.std.proofs.Common.{◌≡◌, ◌↔◌, ℕ, ℤ, suc, ◌+◌, ◌<◌, List, [], ◌∷◌, length, Option, Some, None, Bool, true, false, cond, not, inl, inr, refl, sym, ap, ◌∙◌, subst, arith}
use Rattle.std.specs.Prelude.{IsSome, IsTrue, IfSome, IfNone, IsSomeAnd, is_none, is_some}
use Rattle.std.specs.Option.{option_map}
use Rattle.std.proofs.lemmas.Bool.{lt-ltb, and_parts}
use Rattle.semantics.specs.Paths.{Path as RunningPath}
use Rattle.semantics.specs.Frames.{Frame}
use Rattle.semantics.specs.Events as running
use Rattle.semantics.specs.Events.{Machine, event, status_of, stolen, if_ready}
use Rattle.semantics.proofs.Machines.{is_none_true}
use Rattle.semantics.proofs.Workers.{Manned}
use Rattle.program.specs.declared.function.Program.{Program}
use Rattle.frame.specs.declared.path.Path.{Path}
use Rattle.cactus.specs.declared.node.Node.{Node}
use Rattle.cactus.specs.Frames.{HasPath, node_of_use}
use Rattle.schedule_workers.specs.declared.activation.Activation.{Activation}
use Rattle.schedule_core.specs.Parents.{HasNoReadyParent, IsReadyParent}
use Rattle.schedule_core.specs.Replaying.{GrowsOnly, LeavesAsBefore}
use Rattle.schedule_core.specs.Stages.{workers_of}
use Rattle.schedule_core.specs.Viewed.{place_in, status_in, IsFirstReady}
use Rattle.frame.specs.declared.event.Event.{Event}
use Rattle.frame.specs.declared.event.Event.TheVariants.{Step, Steal}
use Rattle.schedule_core.specs.declared.stage.Stage.{Stage}
use Rattle.schedule_core.proofs.Unchanged.{as_it_was}
use Rattle.schedule_core.specs.declared.ready.Ticket.{Ticket}
use Rattle.shared_run.specs.declared.answers.Stepped.TheVariants as stepped
use Rattle.shared_run.specs.declared.answers.Claimed.{Claimed}
use Rattle.shared_run.specs.declared.answers.Claimed.TheVariants as claimed
use Rattle.shared_run.specs.Calls.{Appends, CanTake, Claims, ClaimsFirst, IsDetach, IsOneBelow, IsParents, Leaves, Same, Stays, Steps, Takes, Tries, depth_in}
use Rattle.shared_run.specs.Story.{IsLegal, Origin, SeatView, Story, named_by, state_of, story}
use Rattle.shared_run.proofs.Begun.{IsStepOf, step_of, begins_or_none, parent_ready}
use Rattle.shared_run.proofs.Stories.{manned_here, untrapped}
use Rattle.semantics.proofs.Steps.{some_same}

-- the use of a slot that has the path names it
named : (stage : Stage) (ticket : Ticket) (path : Path) → HasPath stage.run.cactus ticket.slot ticket.generation path → named_by stage ticket ≡ Some path
named stage ticket path has = from (node_of_use stage.run.cactus ticket.slot ticket.generation) has
  where
    from : (o : Option (Node Activation)) → IsSomeAnd o (λ node. node.path ≡ path) → option_map (λ (node : Node Activation). node.path) o ≡ Some path
    from None h = absurd h
    from (Some node) h = ap Some h

-- ---- a step

module _ (prog : Program) (workers : ℕ) (s t : Story) (w : ℕ) (man : Manned workers (state_of s).core (state_of s).hands) (is : event prog workers (running.Step w) (state_of s) ≡ Some (state_of t)) (sound : (state_of s).trapped ≡ None) (fine : (state_of t).trapped ≡ None) (as_many : workers_of t.stage ≡ t.start.workers) (crew : t.start.workers ≡ workers) where
  step : IsStepOf prog workers (state_of s) (state_of t) w
  step = step_of prog workers (state_of s) (state_of t) w is sound fine

  before_is : depth_in (state_of s) w ≡ Some (length step.path)
  unfolding step
  before_is = ap (λ o. option_map (λ (p : RunningPath). length p) o) step.hand

  ready_here : (path : Path) → status_in (workers_of t.stage) (state_of t) path ≡ Some running.Ready → status_in t.start.workers (state_of t) path ≡ Some running.Ready
  ready_here path ready = subst (λ n. status_in n (state_of t) path ≡ Some running.Ready) as_many ready

  shows : (ticket : Ticket) → IsReadyParent t.stage.run (state_of t) w ticket.slot ticket.generation → IsOneBelow (depth_in (state_of s) w) (depth_in (state_of t) w) → IsDetach prog (state_of s) w × IsParents s t w ticket
  shows ticket r below = elim (begins_or_none prog workers (state_of s) (state_of t) w step) [
    | inl b ↦
        let same : step.path ≡ running.top_of (state_of t).core (place_in r.path) = (let e : Some (b.number ∷ step.path) ≡ Some (r.number ∷ running.top_of (state_of t).core (place_in r.path)) = sym b.hand ∙ r.hand in cc) in
        (b.detach, record { path = r.path; named = named t.stage ticket r.path r.named; ready = ready_here r.path r.ready; top = step.hand ∙ ap Some same })
    | inr n ↦
        let (depth, was, now) = below in
        let first : length step.path ≡ depth = (let e : Some (length step.path) ≡ Some depth = sym before_is ∙ was in cc) in
        let last : suc (length (running.top_of (state_of t).core (place_in r.path))) ≡ depth + 1 =
        (let e : Some (suc (length (running.top_of (state_of t).core (place_in r.path)))) ≡ Some (depth + 1) = sym (ap (λ o. option_map (λ (p : RunningPath). length p) o) r.hand) ∙ now in cc) in
        let no : running.is_child r.child.role ≡ false = n.no_child r.number (running.top_of (state_of t).core (place_in r.path)) r.child r.hand (omega (arith, first, last)) r.stands in
        absurd (let e : true ≡ false = sym r.is_child ∙ no in cc)
  ]

  hides : (IsOneBelow (depth_in (state_of s) w) (depth_in (state_of t) w) → HasNoReadyParent (workers_of t.stage) (state_of t) w) → ¬ IsDetach prog (state_of s) w
  hides none d = elim (begins_or_none prog workers (state_of s) (state_of t) w step) [
    | inr n ↦ n.no_detach d
    | inl b ↦
        let now : depth_in (state_of t) w ≡ Some (length step.path + 1) = ap (λ o. option_map (λ (p : RunningPath). length p) o) b.hand ∙ ap Some (omega arith) in
        let ready : running.top_status workers (state_of t) step.path ≡ Some running.Ready = parent_ready prog workers (state_of s) (state_of t) w step man b in
        none (length step.path, before_is, now) b.number step.path b.child b.hand b.child_stands b.is_child
        (subst (λ n. running.top_status n (state_of t) step.path ≡ Some running.Ready) (sym (as_many ∙ crew)) ready)
  ]

  -- a ticket is given exactly by a detach
  pub ready_exact : (o : Option Ticket) → IfSome o (λ ticket. IsReadyParent t.stage.run (state_of t) w ticket.slot ticket.generation) → IfSome o (λ ticket. IsOneBelow (depth_in (state_of s) w) (depth_in (state_of t) w)) →
      IfNone o (IsOneBelow (depth_in (state_of s) w) (depth_in (state_of t) w) → HasNoReadyParent (workers_of t.stage) (state_of t) w) → (IsSome o ↔ IsDetach prog (state_of s) w) × IfSome o (IsParents s t w)
  ready_exact None shown below none = ((λ some. absurd (cc), λ d. absurd (hides none d)), tt)
  ready_exact (Some ticket) shown below none = let h = shows ticket shown below in ((λ some. h.0, λ d. refl), h.1)

-- ---- what is not enabled

-- a worker whose step is not enabled is idle
module _ (prog : Program) (workers : ℕ) (m : Machine) (sound : m.trapped ≡ None) (man : Manned workers m.core m.hands) (w : ℕ) where
  held_goes : (p : RunningPath) (o : Option Frame) → m.core.frames p ≡ o → m.hands w ≡ Some p → running.by_frame prog workers m w p o ≡ None → ⊥
  held_goes p (Some f) at hand is = cc
  held_goes p None at hand is = let g = man.goers w p hand in let there : Some g.frame ≡ None = sym g.is ∙ at in cc

  pub idle_by : event prog workers (running.Step w) m ≡ None → m.hands w ≡ None
  idle_by is = from (m.hands w) refl (sym (ap (λ o. running.unless_trapped o (running.sound_event prog workers (running.Step w) m)) sound) ∙ is)
    where
      from : (o : Option RunningPath) → m.hands w ≡ o → running.by_hand prog workers m w o ≡ None → m.hands w ≡ None
      from None at e = at
      from (Some p) at e = absurd (held_goes p (m.core.frames p) refl at e)

-- ---- a steal

test_is : {A : Type 0} (b : Bool) (o : Option A) (a : A) → cond b o None ≡ Some a → (b ≡ true) × (o ≡ Some a)
test_is true o a e = (refl, e)
test_is false o a e = absurd (cc)

status_is : (m next : Machine) (o : Option running.Status) → if_ready m o ≡ Some next → o ≡ Some running.Ready
status_is m next None e = absurd (cc)
status_is m next (Some running.Ready) e = refl
status_is m next (Some (running.Running w)) e = absurd (cc)
status_is m next (Some (running.Stalled r)) e = absurd (cc)

-- what an enabled steal takes is ready, and its worker is idle
pub could_take : (prog : Program) (workers : ℕ) (m : Machine) (w : ℕ) (t : RunningPath) (next : Machine) → m.trapped ≡ None → event prog workers (running.Steal w t) m ≡ Some next → (m.hands w ≡ None) × (status_of workers m t ≡ Some running.Ready)
could_take prog workers m w t next sound is =
    let e : running.sound_event prog workers (running.Steal w t) m ≡ Some next = sym (ap (λ o. running.unless_trapped o (running.sound_event prog workers (running.Steal w t) m)) sound) ∙ is in
    let (test, then) = test_is _ _ next e in
    let (lt, idle) = and_parts _ _ test in
    (is_none_true _ idle, status_is (stolen m w t) next (status_of workers m t) then)

-- a steal of a ready task by an idle worker is enabled
pub would_take : (prog : Program) (workers : ℕ) (m : Machine) (w : ℕ) (t : RunningPath) → m.trapped ≡ None → w < workers → event prog workers (running.Steal w t) m ≡ None → (m.hands w ≡ None) × (status_of workers m t ≡ Some running.Ready) → ⊥
would_take prog workers m w t sound lt is (idle, ready) =
    let done : event prog workers (running.Steal w t) m ≡ Some (stolen m w t) = rw (sound, lt-ltb w workers lt, idle, ready) refl in
    let e : None ≡ Some (stolen m w t) = sym is ∙ done in
    cc

-- ---- the answers, from what was appended

pub true_is : (b : Bool) (o : Option ℤ) → IsTrue b ↔ IsSome o → b ≡ is_some o
true_is true None e = absurd (let f : IsSome {T = ℤ} None = e.0 refl in cc)
true_is true (Some z) e = refl
true_is false None e = refl
true_is false (Some z) e = absurd (let f : IsTrue false = e.1 refl in cc)

pub none_is : (o : Option RunningPath) → is_none (option_map (λ (x : RunningPath). length x) o) ≡ is_none o
none_is None = refl
none_is (Some x) = refl

-- a story with the same parts
pub same_story : (o : Origin) (es fs : List Event) (m n : Stage) → fs ≡ es → n ≡ m → story o fs n ≡ story o es m
same_story o es fs m n is same = ap (λ (l : List Event). story o l n) is ∙ ap (λ (x : Stage). story o es x) same

module _ (s t : Story) (p q : SeatView) (legal : IsLegal s.start s.events s.stage) (w : ℕ) (mine : w ≡ p.worker) where
  sound : (state_of s).trapped ≡ None
  sound = untrapped s.start s.events s.stage legal

  -- ---- a steal

  pub takes_true : (path : Path) (b : Bool) → b ≡ true → Tries (Steal w path) s t p q b → Takes path s t p q claimed.Taken
  takes_true path b is tries = from (subst (λ x. Tries (Steal w path) s t p q x) is tries)
    where
      from : Tries (Steal w path) s t p q true → Takes path s t p q claimed.Taken
      from (appends, done) =
          let could = could_take s.start.program s.start.workers (state_of s) w (place_in path) (state_of t) sound done in
          (subst (λ v. Appends (Steal v path ∷ []) s t p q) mine appends, (subst (λ v. (state_of s).hands v ≡ None) mine could.0, could.1))

  pub takes_false : (path : Path) (b : Bool) → b ≡ false → w < s.start.workers → Tries (Steal w path) s t p q b → Takes path s t p q claimed.Gone
  takes_false path b is within tries = from (subst (λ x. Tries (Steal w path) s t p q x) is tries)
    where
      from : Tries (Steal w path) s t p q false → Takes path s t p q claimed.Gone
      from (same, none) =
          (same, λ can. would_take s.start.program s.start.workers (state_of s) w (place_in path) sound within none (subst (λ v. (state_of s).hands v ≡ None) (sym mine) can.0, can.1))

  -- ---- a step

  pub steps_done : (b : Bool) → b ≡ true → Tries (Step w) s t p q b → IsLegal t.start t.events t.stage → (before : Option ℕ) → before ≡ depth_in (state_of s) w → (ready : Option Ticket) →
      IfSome ready (λ ticket. IsReadyParent t.stage.run (state_of t) w ticket.slot ticket.generation) → IfSome ready (λ ticket. IsOneBelow before (depth_in (state_of t) w)) →
      IfNone ready (IsOneBelow before (depth_in (state_of t) w) → HasNoReadyParent (workers_of t.stage) (state_of t) w) →
      (idle : Bool) → idle ≡ is_none (depth_in (state_of t) w) → (ended : Bool) → IsTrue ended ↔ IsSome (state_of t).core.result → Steps s t p q (stepped.Done ready idle ended)
  steps_done b is tries after before depth ready shown below none idle idle_is ended ended_is = from (subst (λ x. Tries (Step w) s t p q x) is tries)
    where
      from : Tries (Step w) s t p q true → Steps s t p q (stepped.Done ready idle ended)
      from (appends, done) =
          let crew : t.start.workers ≡ s.start.workers = ap (λ (o : Origin). o.workers) appends.start in
          let exact = ready_exact s.start.program s.start.workers s t w (manned_here s.start s.events s.stage legal) done sound (untrapped t.start t.events t.stage after) after.replays.as_many crew ready shown
          (subst (λ d. IfSome ready (λ ticket. IsOneBelow d (depth_in (state_of t) w))) depth below) (subst (λ d. IfNone ready (IsOneBelow d (depth_in (state_of t) w) → HasNoReadyParent (workers_of t.stage) (state_of t) w)) depth none) in (
            subst (λ v. Appends (Step v ∷ []) s t p q) mine appends,
            subst (λ v. IsSome ready ↔ IsDetach s.start.program (state_of s) v) mine exact.0,
            subst (λ v. IfSome ready (IsParents s t v)) mine exact.1,
            idle_is ∙ (none_is ((state_of t).hands w) ∙ ap (λ v. is_none ((state_of t).hands v)) mine),
            true_is ended (state_of t).core.result ended_is,
          )

  pub steps_idle : (b : Bool) → b ≡ false → Tries (Step w) s t p q b → Steps s t p q stepped.Idle
  steps_idle b is tries = from (subst (λ x. Tries (Step w) s t p q x) is tries)
    where
      from : Tries (Step w) s t p q false → Steps s t p q stepped.Idle
      from (same, none) = (same, subst (λ v. (state_of s).hands v ≡ None) mine (idle_by s.start.program s.start.workers (state_of s) sound (manned_here s.start s.events s.stage legal) w none))

-- a test for nothing
pub is_none_by : (o : Option ℕ) (b : Bool) → is_some o ≡ not b → b ≡ is_none o
is_none_by None true e = refl
is_none_by None false e = absurd (cc)
is_none_by (Some n) true e = absurd (cc)
is_none_by (Some n) false e = refl

-- ---- a claim

module _ (s t : Story) (p q : SeatView) where
  pub claims_of : (ticket : Ticket) (path : Path) (r : Claimed) → named_by s.stage ticket ≡ Some path → Takes path s t p q r → Claims ticket s t p q r
  claims_of ticket path claimed.Taken is takes = (path, is, takes)
  claims_of ticket path claimed.Gone is (same, off) =
      (same, λ other names can. off (subst (λ x. CanTake s p x) (some_same other path (sym names ∙ is)) can))
  claims_of ticket path claimed.OutOfMemory is takes = takes

  pub firsts_of : (path : Path) (r : Claimed) → IsFirstReady s.start.workers (state_of s) path → Takes path s t p q r → ClaimsFirst s t p q r
  firsts_of path claimed.Taken first takes = (path, first, takes)
  firsts_of path claimed.Gone first (same, off) = (same, λ other can. off (can.0, first.ready))
  firsts_of path claimed.OutOfMemory first takes = takes

-- ---- want of memory

pub stays_same : (s t : Story) (p q : SeatView) → Same s t p q → Stays s t p q
stays_same s t p q (same, seat) =
    record {
      start = ap (λ (x : Story). x.start) same;
      events = ap (λ (x : Story). x.events) same;
      stage = subst (λ (x : Stage). LeavesAsBefore s.stage x) (ap (λ (x : Story). x.stage) (sym same)) (as_it_was s.stage);
      seat = seat;
    }

-- before the event was tried
pub leaves_same : (e : Event) (s t : Story) (p q : SeatView) → Same s t p q → Leaves e s t p q
leaves_same (Step worker) s t p q same = stays_same s t p q same
leaves_same (Steal worker path) s t p q same = same

-- no steal is refused memory
pub leaves_grown : (program : Program) (m : Machine) (e : Event) (s t : Story) (p q : SeatView) → GrowsOnly program m e → Stays s t p q → Leaves e s t p q
leaves_grown program m (Step worker) s t p q grows stays = stays
leaves_grown program m (Steal worker path) s t p q grows stays = absurd grows

-- A run that shows a state to which a schedule leads.
use Rattle.std.proofs.Common.{◌≡◌, ◌∙◌, ℕ, ◌≤◌, List, [], ◌∷◌, ◌++◌, length, Option, Some, None, Bool, true, false, is_none, is_some, refl, sym, ap, subst, ℤ}
use Rattle.std.specs.Prelude.{IsSome}
use Rattle.semantics.specs.Paths.{Path}
use Rattle.semantics.specs.Cells.{Shared, Memory}
use Rattle.semantics.specs.Frames.{Frame}
use Rattle.semantics.specs.SerialMeaning.{Gave, Outcome}
use Rattle.semantics.specs.Events.{Machine, Event, event, start}
use Rattle.semantics.specs.Replay.{replay, or_unchanged, has_ended}
use Rattle.program.specs.declared.function.Program.{Program}
use Rattle.cactus.specs.ByPath.{named}
use Rattle.cactus.specs.declared.node.Node.{Node}
use Rattle.schedule_workers.specs.frame_engine.Shows.{Layout}
use Rattle.schedule_workers.specs.frame_engine.declared.activation.Places.{Places}
use Rattle.serial_machine.specs.laws_schedule.Promise.{KeepsItsPromise}
use Rattle.serial_machine.specs.verifier.Accepted.{IsAccepted}
use Rattle.serial_machine.proofs.laws_schedule.Promise.{accepted_programs_keep_their_promise}
use Rattle.serial_machine.proofs.laws_schedule.safe.Replayed.{from_later}
use Rattle.serial_machine.proofs.laws_schedule.safe.Safe.{schedules_are_safe}
use Rattle.serial_machine.specs.laws_conditions.theorem.Schedules.{KeepsSchedule}
use Rattle.schedule_workers.specs.declared.activation.Activation.{Activation}
use Rattle.schedule_workers.specs.declared.run.Run.{Run}
use Rattle.schedule_workers.specs.Going.{Becomes, CanGo, RunsSafely}
use Rattle.schedule_workers.specs.Layouts.{layout_of}
use Rattle.schedule_workers.specs.RunShown.{IsShown, ShowsAt}
use Rattle.schedule_core.specs.laws_workers.RunsPromise.{IsScheduled, DoesEvent, HasEnded, EndsAs, RunsHoldGlobals, RunsStandSafely, RunsStayScheduled, RunsKeepTheirSchedules}
use Rattle.schedule_core.proofs.laws_workers.Going.{workers_runs_are_safe}
use Rattle.schedule_core.proofs.laws_workers.Results.{IsOpen, always_open}

replay_more : (prog : Program) (workers : ℕ) (events : List Event) (e : Event) (m : Machine) →
    replay prog workers (events ++ e ∷ []) m ≡ or_unchanged (event prog workers e (replay prog workers events m)) (replay prog workers events m)
replay_more prog workers [] e m = refl
replay_more prog workers (d ∷ events) e m = replay_more prog workers events e (or_unchanged (event prog workers d m) m)

-- ---- safely

module _ (program : Program) (accepted : IsAccepted program) (places : Places) (arguments : List ℤ) (memory : Memory) (events : List Event) where
  abbrev state : ℕ → Machine
  state workers = replay program workers events (start program arguments memory)

  pub later_safe : (k : Run) → IsScheduled program places arguments memory events k → RunsSafely program (length k.hands.items) (state (length k.hands.items))
  later_safe k at =
      from_later program (length k.hands.items) (λ (x : Machine). CanGo program x) events (start program arguments memory)
      (workers_runs_are_safe accepted.text program accepted.means arguments memory at.taken at.globals (length k.hands.items) at.manned)

  -- ---- one event more

  shown_next : (workers : ℕ) (new : Run) (e : Event) (done : Bool) → Becomes program places workers e (state workers) new done →
      IsShown program places (replay program workers (events ++ e ∷ []) (start program arguments memory)) new
  shown_next workers new e true (next, is, shown) =
      subst (λ (x : Machine). IsShown program places x new)
      (sym (replay_more program workers events e (start program arguments memory) ∙ ap (λ (o : Option Machine). or_unchanged o (state workers)) is)) shown
  shown_next workers new e false (is, shown) =
      subst (λ (x : Machine). IsShown program places x new)
      (sym (replay_more program workers events e (start program arguments memory) ∙ ap (λ (o : Option Machine). or_unchanged o (state workers)) is)) shown

  stays : (old new : Run) → length new.hands.items ≡ length old.hands.items → (e : Event) (done : Bool) → DoesEvent program places old new e done →
      IsScheduled program places arguments memory events old → IsScheduled program places arguments memory (events ++ e ∷ []) new
  stays old new same e done does at = record {
    taken = at.taken;
    globals = at.globals;
    manned = subst (λ n. 1 ≤ n) (sym same) at.manned;
    shown = subst (λ n. IsShown program places (replay program n (events ++ e ∷ []) (start program arguments memory)) new) (sym same)
        (shown_next (length old.hands.items) new e done (does (state (length old.hands.items)) at.shown (later_safe old at)));
  }

pub runs_stand_safely : RunsStandSafely
runs_stand_safely program accepted places arguments memory events k at =
    ∣ record {
      machine = replay program (length k.hands.items) events (start program arguments memory);
      shown = at.shown;
      safe = later_safe program accepted places arguments memory events k at;
    } ∣₁

pub runs_stay_scheduled : RunsStayScheduled
runs_stay_scheduled program accepted places arguments memory events old new same e done does at = stays program accepted places arguments memory events old new same e done does at

-- ---- the globals

some_value : (o : Option ℤ) → is_some o ≡ true → (z : ℤ) × (o ≡ Some z)
some_value None there = absurd (cc)
some_value (Some z) there = (z, refl)

pub runs_hold_globals : RunsHoldGlobals
runs_hold_globals program accepted places arguments memory events k at g i low =
    let run = schedules_are_safe accepted.text program accepted.means arguments memory at.taken at.globals (length k.hands.items) at.manned events in
    let (z, is) = some_value ((replay program (length k.hands.items) events (start program arguments memory)).core.memory (record { object = Shared g; index = i })) (run.globals g i low) in
    (z, is, at.shown.shows.cells.values (record { object = Shared g; index = i }) z is)

-- ---- the schedule theorem

none_shown : (l : Layout) (places : Places) (p : Path) (o : Option Frame) (node : Option (Node Activation)) → node ≡ None → ShowsAt l places p o node → o ≡ None
none_shown l places p None found e shown = refl
none_shown l places p (Some g) None e shown = absurd shown
none_shown l places p (Some g) (Some node) e shown = absurd (cc)

no_result : (o : Option ℤ) → o ≡ None → IsSome o → ⊥
no_result None none some = cc
no_result (Some z) none some = cc

same_gift : (a b : Option ℤ) → Gave a ≡ Gave b → a ≡ b
same_gift a b e = cc

module _ (program : Program) (places : Places) (m : Machine) (k : Run) (is : IsShown program places m k) (serial : Outcome) (keeps : KeepsSchedule program (length k.hands.items) serial m) where
  over : HasEnded k → has_ended m ≡ true
  over ended = ap (λ (o : Option Frame). is_none o) (none_shown (layout_of program places k.cactus m.core) places [] (m.core.frames []) (named k.cactus []) ended (is.shows.frames []))

  -- where there is a result the root does not live
  rootless : IsOpen m.core → IsSome k.result → HasEnded k
  rootless unended some = by (named k.cactus []) refl (is.shows.frames [])
    where
      by : (node : Option (Node Activation)) → named k.cactus [] ≡ node → ShowsAt (layout_of program places k.cactus m.core) places [] (m.core.frames []) node → named k.cactus [] ≡ None
      by None at shown = at
      by (Some node) at shown = absurd (by_root (m.core.frames []) refl shown)
        where
          by_root : (o : Option Frame) → m.core.frames [] ≡ o → ShowsAt (layout_of program places k.cactus m.core) places [] o (Some node) → ⊥
          by_root None root h = h
          by_root (Some f) root h = no_result k.result (sym is.shows.result ∙ unended.none_yet f root) some

  result_there : (z : ℤ) → serial.ending ≡ Gave (Some z) → HasEnded k → IsSome k.result
  result_there z gives ended =
      let same : m.core.result ≡ Some z = same_gift m.core.result (Some z) (sym (keeps.same_result (over ended)) ∙ gives) in
      subst (λ (o : Option ℤ). IsSome o) (sym same ∙ is.shows.result) refl

  pub ends_as : HasEnded k → EndsAs places serial k
  ends_as ended = record {
    result = subst (λ r. serial.ending ≡ Gave r) is.shows.result (keeps.same_result (over ended));
    count = sym is.shows.done ∙ keeps.same_count (over ended);
    depth = sym is.shows.peak ∙ keeps.same_peak (over ended);
    globals = λ g i z at.
        is.shows.cells.values (record { object = Shared g; index = i }) z
        (ap (λ (w : Memory). w (record { object = Shared g; index = i })) (keeps.same_memory (over ended)) ∙ at);
  }

pub runs_keep_their_schedules : RunsKeepTheirSchedules
runs_keep_their_schedules program accepted places arguments memory events k at =
    let promise : KeepsItsPromise program arguments memory = accepted_programs_keep_their_promise accepted.text program accepted.means arguments memory at.taken at.globals in
    let m : Machine = replay program (length k.hands.items) events (start program arguments memory) in
    let keeps : KeepsSchedule program (length k.hands.items) promise.serial m = promise.every_schedule (length k.hands.items) at.manned events in
    let unended : IsOpen m.core =
    always_open program arguments memory (length k.hands.items) (λ more. (promise.every_schedule (length k.hands.items) at.manned more).no_trap.0) events in
    record {
      serial = promise.serial;
      is_serial = promise.is_serial;
      within_budget = promise.within_budget;
      within_depth = promise.within_depth;
      schedule = keeps;
      count = subst (λ n. n ≤ promise.serial.count) at.shown.shows.done keeps.within_budget;
      ended = (
        rootless program places m k at.shown promise.serial keeps unended,
        result_there program places m k at.shown promise.serial keeps promise.gives.0 promise.gives.1,
      );
      ends = ends_as program places m k at.shown promise.serial keeps;
    }

-- What a legal history says of its machine, and an event more.
use Rattle.std.proofs.Common.{◌≡◌, ℕ, ℤ, ◌≤◌, List, [], ◌∷◌, ◌++◌, map, reverse, Option, Some, None, true, false, refl, sym, ap, ◌∙◌, subst, arith}
use Rattle.std.specs.Prelude.{IsSome, is_none}
use Rattle.std.proofs.lemmas.List.{map-append, reverse-reverse}
use Rattle.semantics.specs.Frames.{Frame}
use Rattle.semantics.specs.Events as running
use Rattle.semantics.specs.Events.{Machine, event}
use Rattle.semantics.specs.Replay.{or_unchanged, replay, has_ended}
use Rattle.semantics.specs.Sound.{NeverTraps}
use Rattle.semantics.specs.SerialMeaning.{Gave}
use Rattle.semantics.specs.Cells.{Shared}
use Rattle.semantics.proofs.Workers.{Manned}
use Rattle.program.specs.declared.function.Program.{Program}
use Rattle.schedule_core.specs.verifier.Accepted.{IsAccepted}
use Rattle.schedule_core.specs.store.Made.{IsMadeFor}
use Rattle.schedule_core.specs.Admission.{IsNumberOfWorkers}
use Rattle.schedule_core.specs.store.Requirements.{unmet_in}
use Rattle.schedule_core.specs.store.declared.outcome.Finished.{Finished}
use Rattle.schedule_core.proofs.laws_workers.Results.{IsOpen, always_open}
use Rattle.schedule_core.proofs.Grounds.{laws}
use Rattle.schedule_core.proofs.Reached.{reached_manned, replay_more}
use Rattle.frame.specs.declared.event.Event.{Event}
use Rattle.frame.specs.declared.event.Event.TheVariants.{Step, Steal}
use Rattle.schedule_core.specs.declared.stage.Stage.{Stage}
use Rattle.schedule_core.specs.Replaying.{AreEnabled, event_of, Happens, KeepsItsSchedule, Replays, ReplaysOneMore, ReplaysTheSame}
use Rattle.schedule_core.specs.Stages.{given, HoldsGlobals, IsState, names_of, program_of, workers_of}
use Rattle.shared_run.specs.Answer.{IsSerialAnswer, LeadTo}
use Rattle.shared_run.specs.Story.{Origin, IsLegal, first_of, reached}

pub enabled_more : (program : Program) (workers : ℕ) (events : List running.Event) (e : running.Event) (m : Machine) →
    AreEnabled program workers events m → IsSome (event program workers e (replay program workers events m)) → AreEnabled program workers (events ++ e ∷ []) m
enabled_more program workers [] e m all is = (is, tt)
enabled_more program workers (d ∷ events) e m all is = (all.0, enabled_more program workers events e (or_unchanged (event program workers d m) m) all.1 is)

-- the definitions' events are all events of schedules
back : running.Event → Event
back (running.Step worker) = Step worker
back (running.Steal worker task) = Steal worker (record { numbers = reverse task })

back_is : (e : running.Event) → event_of (back e) ≡ e
unfolding back
back_is (running.Step worker) = refl
back_is (running.Steal worker task) = ap (λ t. running.Steal worker t) (reverse-reverse task)

all_back : (es : List running.Event) → map event_of (map back es) ≡ es
all_back [] = refl
all_back (e ∷ es) = ap (λ d. d ∷ map event_of (map back es)) (back_is e) ∙ ap (λ l. e ∷ l) (all_back es)

-- no event yet
pub legal_start : (o : Origin) (stage : Stage) → Replays o.program o.arguments o.memory o.workers [] stage → IsNumberOfWorkers o.workers → IsAccepted o.program →
    unmet_in o.program o.arguments ≡ None → IsMadeFor o.program o.memory → IsLegal o [] stage
legal_start o stage r manned accepted taken made = record { replays = r; enabled = tt; manned = manned; accepted = accepted; taken = taken; made = made }

pub legal_begin : (o begun : Origin) (events : List Event) (stage : Stage) → begun ≡ o → events ≡ [] → IsLegal o [] stage → IsLegal begun events stage
legal_begin o begun events stage same none legal = subst (λ (l : List Event). IsLegal begun l stage) (sym none) (subst (λ (x : Origin). IsLegal x [] stage) (sym same) legal)

module _ (o : Origin) (events : List Event) (stage : Stage) (legal : IsLegal o events stage) where
  -- the stage's module and workers are the start's
  pub event_here : (e : running.Event) (m : Machine) → event (program_of stage) (workers_of stage) e m ≡ event o.program o.workers e m
  event_here e m = ap (λ (p : Program). event p (workers_of stage) e m) legal.replays.program ∙ ap (λ n. event o.program n e m) legal.replays.as_many

  some : 1 ≤ o.workers
  some = let m = legal.manned.0 in omega (arith, m)

  -- the schedule theorem
  schedule_of : (es : List Event) → KeepsItsSchedule o.program o.arguments o.memory o.workers es
  schedule_of es = (laws.from_start o.program legal.accepted o.arguments legal.taken o.memory legal.made o.workers some).keeps es

  pub keeps : KeepsItsSchedule o.program o.arguments o.memory o.workers events
  keeps = schedule_of events

  pub untrapped : (reached o events).trapped ≡ None
  untrapped = keeps.schedule.no_trap.0

  -- after whatever events
  pub untrapped_after : (es : List Event) → (reached o es).trapped ≡ None
  untrapped_after es = (schedule_of es).schedule.no_trap.0

  pub manned_after : (es : List Event) → Manned o.workers (reached o es).core (reached o es).hands
  manned_after es =
      reached_manned o.program o.workers (reached o es) some (record { arguments = o.arguments; memory = given o.memory; events = map event_of es; after = refl }) (untrapped_after es)

  pub manned_here : Manned o.workers (reached o events).core (reached o events).hands
  manned_here = reached_manned o.program o.workers (reached o events) some (record { arguments = o.arguments; memory = given o.memory; events = map event_of events; after = refl }) untrapped

  -- what stands as this stage stands as the state that the events lead to
  pub state_at : (x : Stage) → x ≡ stage → IsState x (reached o events)
  state_at x is = subst (λ (y : Stage). IsState y (reached o events)) (sym is) legal.replays.state

  -- where there is a result the root has returned
  ended_by : (z : ℤ) → (reached o events).core.result ≡ Some z → has_ended (reached o events) ≡ true
  ended_by z is = from ((reached o events).core.frames []) refl
    where
      never : NeverTraps o.program o.workers (first_of o)
      never more = subst (λ l. (replay o.program o.workers l (first_of o)).trapped ≡ None) (all_back more) (schedule_of (map back more)).schedule.no_trap.0

      unended : IsOpen (reached o events).core
      unended = always_open o.program o.arguments (given o.memory) o.workers never (map event_of events)

      from : (root : Option Frame) → (reached o events).core.frames [] ≡ root → is_none root ≡ true
      from None at = refl
      from (Some f) at = absurd (let none : None ≡ Some z = sym (unended.none_yet f at) ∙ is in cc)

  -- a run that has ended has the serial answer
  pub answer : (z : ℤ) (done : Finished) → (reached o events).core.result ≡ Some z → done.result ≡ z → HoldsGlobals (reached o events) stage.memory done.memory → done.instructions ≡ (reached o events).core.done →
      done.peak ≡ (reached o events).core.peak → IsSerialAnswer o done
  answer z done is result memory instructions peak =
      let k : KeepsItsSchedule o.program o.arguments o.memory o.workers events = keeps in
      let over : has_ended (reached o events) ≡ true = ended_by z is in
      record {
        serial = k.serial;
        is_serial = k.is_serial;
        result = k.schedule.same_result over ∙ ap (λ x. Gave x) (is ∙ ap Some (sym result));
        memory = λ global index. ap (λ m. m (record { object = Shared global; index = index })) (sym (k.schedule.same_memory over)) ∙ sym (memory.cells global index);
        names = memory.names ∙ ap names_of legal.replays.globals_are;
        count = instructions ∙ k.schedule.same_count over;
        peak = peak ∙ k.schedule.same_peak over;
      }

  -- and its events lead to it
  pub recorded : (z : ℤ) (done : Finished) → (reached o events).core.result ≡ Some z → done.result ≡ z → HoldsGlobals (reached o events) stage.memory done.memory → done.instructions ≡ (reached o events).core.done →
      done.peak ≡ (reached o events).core.peak → LeadTo o events done
  recorded z done is result memory instructions peak = record {
    enabled = legal.enabled;
    ended = ended_by z is;
    result = is ∙ ap Some (sym result);
    memory = λ global index. sym (memory.cells global index);
    count = sym instructions;
    peak = sym peak;
  }

  -- with an event that was done
  module _ (e : Event) (more : List Event) (new : Stage) (is : more ≡ events ++ e ∷ []) where
    all_more : map event_of more ≡ map event_of events ++ event_of e ∷ []
    all_more = ap (λ l. map event_of l) is ∙ map-append event_of events (e ∷ [])

    state_more : (next : Machine) → event o.program o.workers (event_of e) (reached o events) ≡ Some next → reached o more ≡ next
    state_more next done =
        ap (λ l. replay o.program o.workers l (first_of o)) all_more
        ∙ (replay_more o.program o.workers (map event_of events) (event_of e) (first_of o)
        ∙ ap (λ x. or_unchanged x (reached o events)) done)

    pub done_here : Happens stage new (event_of e) true → event o.program o.workers (event_of e) (reached o events) ≡ Some (reached o more)
    done_here happened =
        let (next, done, stands) = happened (reached o events) legal.replays.state in
        let exact : event o.program o.workers (event_of e) (reached o events) ≡ Some next = sym (event_here (event_of e) (reached o events)) ∙ done in
        exact ∙ ap Some (sym (state_more next exact))

    pub legal_more : Happens stage new (event_of e) true → ReplaysOneMore stage new e → IsLegal o more new
    legal_more happened next =
        record {
          replays = subst (λ (l : List Event). Replays o.program o.arguments o.memory o.workers l new) (sym is) (next o.program o.arguments o.memory o.workers events legal.replays);
          enabled = subst (λ l. AreEnabled o.program o.workers l (first_of o)) (sym all_more)
              (enabled_more o.program o.workers (map event_of events) (event_of e) (first_of o) legal.enabled (subst (λ x. IsSome x) (sym (done_here happened)) refl));
          manned = legal.manned;
          accepted = legal.accepted;
          taken = legal.taken;
          made = legal.made;
        }

  -- one that was not
  pub not_here : (e : Event) (new : Stage) → Happens stage new (event_of e) false → event o.program o.workers (event_of e) (reached o events) ≡ None
  not_here e new happened = sym (event_here (event_of e) (reached o events)) ∙ happened (reached o events) legal.replays.state

  -- where nothing was appended
  pub legal_same : (es : List Event) (new : Stage) → es ≡ events → ReplaysTheSame stage new → IsLegal o es new
  legal_same es new is same =
      subst (λ (l : List Event). IsLegal o l new) (sym is)
      (record { replays = same o.program o.arguments o.memory o.workers events legal.replays; enabled = legal.enabled; manned = legal.manned; accepted = legal.accepted; taken = legal.taken; made = legal.made })

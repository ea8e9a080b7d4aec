-- A replay that has ended comes to what the serial run does.
use Rattle.std.proofs.Common.{◌≡◌, ℕ, List, [], length, map, Option, Some, None, true, refl, sym, ap, ◌∙◌, subst, arith, ℤ}
use Rattle.std.specs.Prelude.{is_none, sum}
use Rattle.frame.specs.declared.event.Event.{Event}
use Rattle.program.specs.declared.function.Program.{Program}
use Rattle.semantics.specs.Events as running
use Rattle.semantics.specs.Frames.{Frame}
use Rattle.semantics.specs.Replay.{has_ended}
use Rattle.semantics.specs.Sound.{NeverTraps}
use Rattle.semantics.specs.SerialMeaning.{Gave}
use Rattle.schedule_core.specs.Admission.{IsNumberOfWorkers}
use Rattle.store.specs.Requirements.{unmet_in}
use Rattle.store.specs.Cells.{NamedCells}
use Rattle.store.specs.Named.{HasGlobalCells}
use Rattle.store.specs.verifier.Accepted.{IsAccepted}
use Rattle.schedule_core.specs.Replaying.{KeepsItsSchedule, Replays, event_of, first_state, state_after}
use Rattle.schedule_core.specs.Stages.{IsState, given}
use Rattle.schedule_core.specs.declared.stage.Stage.{Stage}
use Rattle.schedule_core.proofs.laws_workers.Results.{IsOpen, always_open}
use Rattle.serial_machine.specs.laws_schedule.Promise.{KeepsItsPromise}
use Rattle.serial_machine.proofs.Arguments.{are_taken}
use Rattle.serial_machine.proofs.Globals.{globals_there}
use Rattle.serial_machine.proofs.laws_schedule.Promise.{accepted_programs_keep_their_promise}
use Rattle.kernel_calls.specs.Told.{memory_from, sizes_in}
use Rattle.kernel_calls.specs.Replayed.{EndsBy, HasEndedIn, IsAfter}
use Rattle.kernel_calls.specs.declared.told.Outcome.{Outcome}

-- ---- from memory that was filled with a row

module _ (program : Program) (arguments row : List ℤ) (workers : ℕ) (events : List Event) (memory : List NamedCells) (filled : memory ≡ memory_from program row) where
  pub is_after : unmet_in program arguments ≡ None → length row ≡ sum (sizes_in program) → IsNumberOfWorkers workers →
      KeepsItsSchedule program arguments memory workers events →
      IsAfter program arguments row workers events (state_after program arguments (memory_from program row) workers events)
  is_after taken long manned keeps = record {
    taken = taken;
    long = long;
    manned = manned;
    after = refl;
    keeps = subst (λ (m : List NamedCells). KeepsItsSchedule program arguments m workers events) filled keeps;
  }

  pub stands_after : (stage : Stage) → Replays program arguments memory workers events stage → IsState stage (state_after program arguments (memory_from program row) workers events)
  stands_after stage replays = subst (λ (m : List NamedCells). IsState stage (state_after program arguments m workers events)) filled replays.state

-- ---- at its end

module _ (program : Program) (a : IsAccepted program) (arguments row : List ℤ) (workers : ℕ) (events : List Event) (taken : unmet_in program arguments ≡ None)
    (cells : HasGlobalCells program (memory_from program row)) (after : IsAfter program arguments row workers events (state_after program arguments (memory_from program row) workers events))
  where
    abbrev globals : List NamedCells
    globals = memory_from program row

    abbrev machine : running.Machine
    machine = state_after program arguments globals workers events

    promise : KeepsItsPromise program arguments (given globals)
    promise = accepted_programs_keep_their_promise a.text program a.means arguments (given globals) (are_taken program arguments taken) (λ g i low. globals_there program globals cells g i low)

    never : NeverTraps program workers (first_state program arguments globals)
    never more = (promise.every_schedule workers (let some = after.manned.0 in omega (arith, some)) more).no_trap.0

    -- where there is a result the root has returned
    over : (z : ℤ) → machine.core.result ≡ Some z → has_ended machine ≡ true
    over z is = from (machine.core.frames []) refl
      where
        unended : IsOpen machine.core
        unended = always_open program arguments (given globals) workers never (map event_of events)

        from : (root : Option Frame) → machine.core.frames [] ≡ root → is_none root ≡ true
        from None at = refl
        from (Some f) at = absurd (let none : None ≡ Some z = sym (unended.none_yet f at) ∙ is in cc)

    pub ends_by : (end : List ℤ) (outcome : Outcome) → HasEndedIn machine end outcome → EndsBy program arguments row end workers events outcome
    ends_by end outcome h =
        let k : KeepsItsSchedule program arguments globals workers events = after.keeps in
        let ended : has_ended machine ≡ true = over outcome.result h.ended in
        record {
          machine = machine;
          replayed = after;
          ended = h;
          serial = k.serial;
          is_serial = k.is_serial;
          result = k.schedule.same_result ended ∙ ap (λ x. Gave x) h.ended;
          memory = k.schedule.same_memory ended;
          instructions = h.instructions ∙ k.schedule.same_count ended;
          peak = h.peak ∙ k.schedule.same_peak ended;
        }

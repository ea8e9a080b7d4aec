-- What a shared run that has ended answers.
use Rattle.std.specs.Prelude.{◌≡◌, ℕ, List, map, Some, true}
use Rattle.semantics.specs.Cells.{Shared}
use Rattle.semantics.specs.Replay.{has_ended}
use Rattle.semantics.specs.SerialMeaning.{Gave, Outcome, IsSerialMeaning}
use Rattle.frame.specs.declared.event.Event.{Event}
use Rattle.schedule_core.specs.store.Cells.{cell_at}
use Rattle.schedule_core.specs.store.declared.outcome.Finished.{Finished}
use Rattle.schedule_core.specs.Replaying.{AreEnabled, event_of}
use Rattle.schedule_core.specs.Stages.{given, names_of}
use Rattle.shared_run.specs.Story.{Origin, first_of, reached}

-- the serial meaning's result, memory, count and depth; the globals have the names of those that were handed in
pub record IsSerialAnswer (o : Origin) (done : Finished) : Type 0 where
  pub serial : Outcome
  pub is_serial : IsSerialMeaning o.program o.arguments (given o.memory) serial
  pub result : serial.ending ≡ Gave (Some done.result)
  pub memory : (global index : ℕ) → serial.memory (record { object = Shared global; index = index })
      ≡ cell_at done.memory global index
  pub names : names_of done.memory ≡ names_of o.memory
  pub count : done.instructions ≡ serial.count
  pub peak : done.peak ≡ serial.depth

-- the events, each enabled where it stands, lead from the start to the end with this answer
pub record LeadTo (o : Origin) (events : List Event) (done : Finished) : Type 0 where
  pub enabled : AreEnabled o.program o.workers (map event_of events) (first_of o)
  pub ended : has_ended (reached o events) ≡ true
  pub result : (reached o events).core.result ≡ Some done.result
  pub memory : (global index : ℕ) → (reached o events).core.memory (record { object = Shared global; index = index })
      ≡ cell_at done.memory global index
  pub count : (reached o events).core.done ≡ done.instructions
  pub peak : (reached o events).core.peak ≡ done.peak

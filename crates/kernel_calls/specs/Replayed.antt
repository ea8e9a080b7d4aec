-- What a host is told of a run by a schedule.
use Rattle.std.specs.Prelude.{◌≡◌, ◌⊎◌, ℕ, List, length, sum, Some, None, ℤ}
use Rattle.semantics.specs.Cells.{Shared}
use Rattle.semantics.specs.Events as running
use Rattle.semantics.specs.SerialMeaning.{Gave, IsSerialMeaning}
use Rattle.semantics.specs.SerialMeaning as serial_meaning
use Rattle.program.specs.declared.function.Program.{Program}
use Rattle.frame.specs.declared.event.Event.{Event}
use Rattle.store.specs.Requirements.{unmet_in}
use Rattle.store.specs.Cells.{NamedCells, cell_at}
use Rattle.store.specs.Refilled.{row_of}
use Rattle.schedule_core.specs.Replaying.{KeepsItsSchedule, state_after}
use Rattle.schedule_core.specs.Admission.{IsNumberOfWorkers}
use Rattle.schedule_core.specs.Stages.{given}
use Rattle.schedule_text.specs.ScheduleText.{IsSchedule}
use Rattle.kernel_calls.specs.Told.{bad_arguments, done, memory_from, other_cells, out_of_memory, sizes_in}
use Rattle.kernel_calls.specs.Held.{closed}
use Rattle.kernel_calls.specs.declared.told.Outcome.{Outcome}

abbrev pub not_ended : ℕ
not_ended = 6

abbrev pub bad_workers : ℕ
bad_workers = 802

abbrev pub bad_schedule : ℕ
bad_schedule = 901

abbrev pub long_schedule : ℕ
long_schedule = 902

-- of events
abbrev pub IsReplayStatus : ℕ → Type 0
IsReplayStatus n =
    (n ≡ done) ⊎ ((n ≡ not_ended) ⊎
    ((n ≡ bad_arguments) ⊎ ((n ≡ bad_workers) ⊎ ((n ≡ other_cells) ⊎ (n ≡ out_of_memory)))))

-- and of a handle
abbrev pub IsReplayHeldStatus : ℕ → Type 0
IsReplayHeldStatus n = (n ≡ closed) ⊎ IsReplayStatus n

-- of a text that is no schedule
abbrev pub IsScheduleFault : ℕ → Type 0
IsScheduleFault n = (n ≡ bad_schedule) ⊎ ((n ≡ long_schedule) ⊎ (n ≡ out_of_memory))

abbrev pub IsScheduleStatus : ℕ → Type 0
IsScheduleStatus n = (n ≡ bad_schedule) ⊎ ((n ≡ long_schedule) ⊎ IsReplayHeldStatus n)

-- ---- where a run stands

-- the machine has ended, and the row has the numbers of its globals
pub record HasEndedIn (machine : running.Machine) (row : List ℤ) (outcome : Outcome) : Type 0 where
  pub ended : machine.core.result ≡ Some outcome.result
  pub instructions : outcome.instructions ≡ machine.core.done
  pub peak : outcome.peak ≡ machine.core.peak
  pub globals : List NamedCells
  pub cells : (global index : ℕ) →
      cell_at globals global index ≡ machine.core.memory (record { object = Shared global; index = index })
  pub numbers : row ≡ row_of globals

-- it has not
pub record StandsIn (machine : running.Machine) (outcome : Outcome) : Type 0 where
  pub unended : machine.core.result ≡ None
  pub instructions : outcome.instructions ≡ machine.core.done
  pub peak : outcome.peak ≡ machine.core.peak

-- the definitions' machine after these events, from the numbers of a row; it keeps the schedule theorem
pub record IsAfter (program : Program) (arguments row : List ℤ) (workers : ℕ) (events : List Event)
    (machine : running.Machine) : Type 0 where
  pub taken : unmet_in program arguments ≡ None
  pub long : length row ≡ sum (sizes_in program)
  pub manned : IsNumberOfWorkers workers
  pub after : state_after program arguments (memory_from program row) workers events ≡ machine
  pub keeps : KeepsItsSchedule program arguments (memory_from program row) workers events

-- it has ended, with what the serial run comes to
pub record EndsBy (program : Program) (arguments before after : List ℤ) (workers : ℕ) (events : List Event)
    (outcome : Outcome) : Type 0 where
  pub machine : running.Machine
  pub replayed : IsAfter program arguments before workers events machine
  pub ended : HasEndedIn machine after outcome
  pub serial : serial_meaning.Outcome
  pub is_serial : IsSerialMeaning program arguments (given (memory_from program before)) serial
  pub result : serial.ending ≡ Gave (Some outcome.result)
  pub memory : machine.core.memory ≡ serial.memory
  pub instructions : outcome.instructions ≡ serial.count
  pub peak : outcome.peak ≡ serial.depth

-- it has not ended
pub record StandsBy (program : Program) (arguments row : List ℤ) (workers : ℕ) (events : List Event)
    (outcome : Outcome) : Type 0 where
  pub machine : running.Machine
  pub replayed : IsAfter program arguments row workers events machine
  pub stands : StandsIn machine outcome

-- by the events that the text spells
abbrev pub ByText : List ℕ → (List Event → Type 0) → Type 0
ByText text By = (events : List Event) × IsSchedule text events × By events

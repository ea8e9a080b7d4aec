-- What a host is told of a run on threads of its own.
use Rattle.std.specs.Prelude.{◌≡◌, ◌≢◌, ◌⊎◌, ◌+◌, ◌-◌, ◌^◌, ◌<◌, ◌≤◌, ℕ, ℤ, List, [], length, min, sum, is_some, true}
use Rattle.std.specs.Prelude.{false, Option, Some, None}
use Rattle.program.specs.declared.function.Program.{Program}
use Rattle.shared_run.specs.Answer.{IsSerialAnswer, LeadTo}
use Rattle.shared_run.specs.Story.{Origin, origin}
use Rattle.store.specs.declared.outcome.Finished.{Finished}
use Rattle.kernel_calls.specs.Held.{OfHeld, closed}
use Rattle.kernel_calls.specs.Replayed.{StandsIn, bad_workers, long_schedule, not_ended}
use Rattle.kernel_calls.specs.Runs.{Run, machine_of}
use Rattle.kernel_calls.specs.Told.{Shows, bad_arguments, done, memory_from, other_cells, out_of_fuel, out_of_memory}
use Rattle.kernel_calls.specs.Told.{sizes_in, stopped}
use Rattle.schedule_text.specs.ScheduleText.{IsSchedule}
use Rattle.kernel_calls.specs.Words as words
use Rattle.kernel_calls.specs.declared.told.Outcome.{Outcome}

-- ---- the statuses

abbrev pub foreign : ℕ
foreign = 9

abbrev pub work : ℕ
work = 10

abbrev pub idle : ℕ
idle = 11

-- of what is made
abbrev pub IsMadeStatus : ℕ → Type 0
IsMadeStatus n = (n ≡ done) ⊎ (n ≡ out_of_memory)

-- of a run that begins
abbrev pub IsBegunStatus : ℕ → Type 0
IsBegunStatus n = (n ≡ done) ⊎ ((n ≡ bad_arguments) ⊎ ((n ≡ bad_workers) ⊎ ((n ≡ other_cells) ⊎ (n ≡ out_of_memory))))

-- and of a handle
abbrev pub IsOpenStatus : ℕ → Type 0
IsOpenStatus n = (n ≡ closed) ⊎ IsBegunStatus n

-- of what is set
abbrev pub IsSetStatus : ℕ → Type 0
IsSetStatus n = (n ≡ done) ⊎ (n ≡ closed)

-- of a meeting of two that hold something
abbrev pub IsMetStatus : ℕ → Type 0
IsMetStatus n = (n ≡ work) ⊎
    ((n ≡ idle) ⊎ ((n ≡ done) ⊎ ((n ≡ out_of_memory) ⊎ ((n ≡ out_of_fuel) ⊎ ((n ≡ stopped) ⊎ (n ≡ foreign))))))

abbrev pub IsMeetStatus : ℕ → Type 0
IsMeetStatus n = (n ≡ closed) ⊎ IsMetStatus n

abbrev pub IsTurnStatus : ℕ → Type 0
IsTurnStatus n = (n ≡ done) ⊎ ((n ≡ stopped) ⊎ (n ≡ closed))

-- of a run that has ended, over a row of as many cells as its globals have
abbrev pub IsShownStatus : ℕ → Type 0
IsShownStatus n = (n ≡ done) ⊎ (n ≡ out_of_memory)

abbrev pub IsFinishStatus : ℕ → Type 0
IsFinishStatus n = (n ≡ not_ended) ⊎ ((n ≡ other_cells) ⊎ IsShownStatus n)

-- and of a board
abbrev pub IsFinishHeldStatus : ℕ → Type 0
IsFinishHeldStatus n = (n ≡ closed) ⊎ IsFinishStatus n

-- ---- a run begins

-- it has done nothing yet
pub record IsNew (start : Origin) (fuel : ℕ) (r : Run) : Type 0 where
  pub start_is : r.start ≡ start
  pub events : r.events ≡ []
  pub fuel_is : r.fuel ≡ fuel

-- of the program, with these arguments, from the numbers of a row
pub record Begins (program : Program) (arguments row : List ℤ) (workers fuel : ℕ) (state : Option Run) : Type 0 where
  pub long : length row ≡ sum (sizes_in program)
  pub run : Run
  pub state_is : state ≡ Some run
  pub new : IsNew (origin program arguments (memory_from program row) workers) fuel run

-- of the program that is held
abbrev pub BeginsAt : Option Program → List ℤ → List ℤ → ℕ → ℕ → Option Run → Type 0
BeginsAt handle arguments row workers fuel state =
    OfHeld handle (λ program. Begins program arguments row workers fuel state)

-- ---- a run goes on

-- of the run that is held
abbrev pub OfRun : Option Run → (Run → Type 0) → Type 0
OfRun state Is = (run : Run) × (state ≡ Some run) × Is run

-- the worker is one of the run's module
abbrev pub IsOfRun : Option Run → Option Program → Type 0
IsOfRun state program = OfRun state (λ run. program ≡ Some run.start.program)

-- where both hold something, the worker is one of the run's module
abbrev pub AreOfOne : Option Run → Option Program → Type 0
AreOfOne state program = (r : Run) (p : Program) → state ≡ Some r → program ≡ Some p → p ≡ r.start.program

-- the run may have done more than before: its start and its fuel are the same
pub record GoesOn (old new : Run) : Type 0 where
  pub start : new.start ≡ old.start
  pub fuel : new.fuel ≡ old.fuel

abbrev pub StaysHeld : Option Run → Option Run → Type 0
StaysHeld None new = new ≡ None
StaysHeld (Some old) new = OfRun new (GoesOn old)

-- it has not ended, and has done less than its fuel allows
pub record MayGoOn (run : Run) : Type 0 where
  pub unended : is_some (machine_of run).core.result ≡ false
  pub within : (machine_of run).core.done < run.fuel

-- it has not ended, and has done as much
pub record IsSpent (run : Run) : Type 0 where
  pub unended : is_some (machine_of run).core.result ≡ false
  pub beyond : run.fuel ≤ (machine_of run).core.done

abbrev pub HasEnded : Run → Type 0
HasEnded run = is_some (machine_of run).core.result ≡ true

-- the run has more fuel, at most 2^64 - 1 in all
abbrev pub WithMore : ℕ → Run → Run
WithMore more run = record run { fuel = min (run.fuel + more) (2 ^ 64 - 1) }

abbrev pub IsGranted : ℕ → Option Run → Option Run → Type 0
IsGranted more old new = OfRun old (λ run. new ≡ Some (WithMore more run))

-- ---- a run's answer

-- the outcome is the serial meaning's of the run that is held, its events lead there, and the row has the numbers of
-- its globals
pub record AnswersSerially (state : Option Run) (row : List ℤ) (outcome : Outcome) : Type 0 where
  pub run : Run
  pub held : state ≡ Some run
  pub finished : Finished
  pub answer : IsSerialAnswer run.start finished
  pub replays : LeadTo run.start run.events finished
  pub shown : Shows finished row outcome

-- the run that is held has come so far
abbrev pub StandsHeld : Option Run → Outcome → Type 0
StandsHeld state outcome = OfRun state (λ run. StandsIn (machine_of run) outcome)

-- the row has not as many cells as the globals of the run's program
abbrev pub HasOtherCellsOfRun : Option Run → List ℤ → Type 0
HasOtherCellsOfRun state row = OfRun state (λ run. length row ≢ sum (sizes_in run.start.program))

-- ---- what a run has done

abbrev pub IsSpelledStatus : ℕ → Type 0
IsSpelledStatus n = (n ≡ done) ⊎ ((n ≡ closed) ⊎ ((n ≡ long_schedule) ⊎ (n ≡ out_of_memory)))

-- the schedule of its events is written, as far as there is room
abbrev pub IsSpelled : List ℕ → List ℕ → ℕ → Run → Type 0
IsSpelled before after needed run = (text : List ℕ) × IsSchedule text run.events ×
    words.StandsIn before text after needed

-- no text is the schedule of its events: they are too many, or their text is too long
abbrev pub HasNoSchedule : Run → Type 0
HasNoSchedule run = (text : List ℕ) → IsSchedule text run.events → ⊥

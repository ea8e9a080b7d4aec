-- The schedule theorem of one program: what is asked of its arguments and its memory, and what every schedule keeps.
use Rattle.std.specs.Prelude.{◌≡◌, ℕ, ◌≤◌, List, length, Some, All, slice_get, ℤ}
use Rattle.semantics.specs.Cells.{Shared, Memory}
use Rattle.semantics.specs.Written.{or_zero}
use Rattle.semantics.specs.Frames.{global_cells}
use Rattle.semantics.specs.SerialMeaning.{Gave, Outcome, IsSerialMeaning}
use Rattle.semantics.specs.Events.{Event, start}
use Rattle.semantics.specs.Replay.{replay}
use Rattle.laws_conditions.specs.theorem.Schedules.{KeepsSchedule}
use Rattle.program.specs.declared.function.Function.{Function}
use Rattle.program.specs.declared.function.Program.{Program}
use Rattle.verifier.specs.Accepted.{IsProgramOf}
use Rattle.verifier.specs.Budgets.{budget_of, IsDepthOf}
use Rattle.laws_phases.specs.facts.Known.{IsMet}
use Rattle.laws_phases.specs.defined.Values.{Full}

-- the parameters are the first registers
abbrev pub argument_at : List ℤ → ℕ → ℤ
argument_at arguments r = or_zero (slice_get arguments r)

-- arguments that `main` takes: as many as it has parameters, of which its `requires` are true
pub record AreTaken (program : Program) (arguments : List ℤ) : Type 0 where
  pub main : Function
  pub is_main : slice_get program.functions program.main.0 ≡ Some main
  pub count : length arguments ≡ length main.parameters
  pub met : All (IsMet (argument_at arguments)) main.requirements

-- each cell of the globals has a value
abbrev pub HasGlobals : Program → Memory → Type 0
HasGlobals program memory = (g : ℕ) → Full (global_cells (slice_get program.globals g)) (Shared g) memory

pub record KeepsItsPromise (program : Program) (arguments : List ℤ) (memory : Memory) : Type 0 where
  -- the serial run ends, in one way, with a number
  pub serial : Outcome
  pub is_serial : IsSerialMeaning program arguments memory serial
  pub only_one : (other : Outcome) → IsSerialMeaning program arguments memory other → other ≡ serial
  pub gives : (result : ℤ) × (serial.ending ≡ Gave (Some result))
  -- within the budget and the depth that the verifier answers
  pub within_budget : serial.count ≤ budget_of program
  pub within_depth : (depth : ℕ) → IsDepthOf program depth → serial.depth ≤ depth
  -- on any number of workers, whatever the events, enabled or not: no step traps, no more instructions are done than
  -- serially, living frames are at most the workers times the serial depth, and a run that has ended has the serial
  -- memory, result and count
  pub every_schedule : (workers : ℕ) → 1 ≤ workers → (events : List Event) →
      KeepsSchedule program workers serial (replay program workers events (start program arguments memory))

-- each program that the verifier takes, whatever its text
abbrev pub AcceptedProgramsKeepTheirPromise : Type 0
AcceptedProgramsKeepTheirPromise =
    (text : List ℕ) (program : Program) → IsProgramOf text program → (arguments : List ℤ) (memory : Memory) →
    AreTaken program arguments → HasGlobals program memory → KeepsItsPromise program arguments memory

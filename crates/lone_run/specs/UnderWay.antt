-- A run of one worker alone between two strands: it is the serial run, as far as it has come.
use Rattle.std.specs.Prelude.{◌≡◌, ℕ, ◌<◌, List, length, map, None, Some, ℤ}
use Rattle.program.specs.declared.function.Function.{Function}
use Rattle.program.specs.declared.function.Program.{Program}
use Rattle.store.specs.Requirements.{unmet_in}
use Rattle.store.specs.declared.outcome.RunFault.{RunFault}
use Rattle.store.specs.declared.outcome.RunFault.TheVariants.{BadArguments, BadWorkers, OutOfMemory, Stopped}
use Rattle.store.specs.Cells.{NamedCells}
use Rattle.store.specs.Named.{HasGlobalCells}
use Rattle.store.specs.Rows.{sizes_of}
use Rattle.store.specs.Refilled.{row_of}
use Rattle.store.specs.verifier.Accepted.{IsAccepted}
use Rattle.store.specs.verifier.Budgets.{budget_of}
use Rattle.frame_engine.specs.Starts.{alloca_starts, starts_from}
use Rattle.frame_engine.specs.declared.activation.Places.{Places}
use Rattle.code_tables.specs.Coded.{AreTables}
use Rattle.code_tables.specs.declared.tables.Tables.{Tables}
use Rattle.serial_stack.specs.Runs.{GoesSafely, HasWalked}
use Rattle.serial_stack.specs.StackShown.{RunsSafely, TextFits}
use Rattle.serial_stack.specs.Starts.{Begins}
use Rattle.serial_stack.specs.Steps.{Run}
use Rattle.serial_stack.specs.declared.stack.Stack.{Stack}
use Rattle.lone_run.specs.declared.run.LoneRun.{LoneRun}

-- it may begin: the verifier took the program, whose `main` takes the arguments, and memory has its cells
pub record MayBegin (program : Program) (arguments : List ℤ) (memory : List NamedCells) : Type 0 where
  pub accepted : IsAccepted program
  pub taken : unmet_in program arguments ≡ None
  pub cells : HasGlobalCells program memory

-- the stack goes on safely, and wherever a first stack of the run stands the serial run leads from there to it
pub record IsOnWay (program : Program) (arguments : List ℤ) (memory : List NamedCells) (places : Places) (tables : Tables)
    (stack : Stack) (done peak : ℕ) : Type 0 where
  pub may : MayBegin program arguments memory
  pub globals : places.globals ≡ starts_from 0 (sizes_of memory)
  pub allocas : places.allocas ≡ map (λ (f : Function). alloca_starts f.allocas) program.functions
  pub coded : AreTables program places tables
  pub small : length (row_of memory) < 9223372036854775808
  pub few : budget_of program < 18446744073709551616
  pub text : TextFits program places (length stack.moves.items)
  pub safe : GoesSafely program places (budget_of program) done stack
  pub first : Stack
  pub begun : Begins program arguments (row_of memory) first
  pub walked : (globals : List ℕ) (start : Run) → RunsSafely globals program (budget_of program) start →
      HasWalked globals program places start 0 1 first → HasWalked globals program places start done peak stack

abbrev pub IsUnderWay : LoneRun → Type 0
IsUnderWay r = IsOnWay r.program.now r.arguments.now r.memory r.places r.tables r.stack r.done r.peak

-- of this program, from these arguments and this memory
abbrev pub IsRunOf : Program → List ℤ → List NamedCells → LoneRun → Type 0
IsRunOf program arguments memory r = (r.program.now ≡ program) × (r.arguments.now ≡ arguments) × (r.memory ≡ memory) ×
    IsUnderWay r

-- at least one instruction was done, and not yet all that the budget allows
abbrev pub GetsOn : LoneRun → LoneRun → Type 0
GetsOn old new = (old.done < new.done) × (new.done < budget_of new.program.now)

-- why it does not begin, or does not end: 801 hands the memory back; else the arguments are taken, and the fault is 803
-- or 804
abbrev pub IsRefusal : Program → List ℤ → List NamedCells → RunFault → Type 0
IsRefusal program arguments memory (BadArguments requirement m) = (unmet_in program arguments ≡ Some requirement) ×
    (m ≡ memory)
IsRefusal program arguments memory (BadWorkers m) = ⊥
IsRefusal program arguments memory OutOfMemory = unmet_in program arguments ≡ None
IsRefusal program arguments memory Stopped = unmet_in program arguments ≡ None

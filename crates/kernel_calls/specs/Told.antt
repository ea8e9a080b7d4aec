-- What a host in C is told, by the statuses of its header.
use Rattle.std.specs.Prelude.{◌≡◌, ◌≢◌, ◌⊎◌, ◌==◌, if◌then◌else◌, ℕ, ◌^◌, ◌-◌, ◌≤◌, List, length, map, min, sum, Option}
use Rattle.std.specs.Prelude.{Some, None, ℤ}
use Rattle.program.specs.declared.function.Global.{Global}
use Rattle.program.specs.declared.function.Program.{Program}
use Rattle.verifier.specs.Accepted.{IsProgramOf, IsRefused}
use Rattle.verifier.specs.Budgets.{IsDepthOf, budget_of}
use Rattle.store.specs.Cells.{NamedCells}
use Rattle.store.specs.Named.{zeros}
use Rattle.store.specs.Refilled.{refilled, row_of}
use Rattle.store.specs.Requirements.{unmet_in}
use Rattle.store.specs.declared.outcome.Finished.{Finished}
use Rattle.serial_machine.specs.SerialPromise.{EndsWithinBudget, TakesMore}
use Rattle.kernel_calls.specs.declared.told.Outcome.{Outcome}
use Rattle.kernel_calls.specs.declared.told.Verdict.{Verdict}

-- ---- the statuses

abbrev pub done : ℕ
done = 0

abbrev pub refused : ℕ
refused = 1

abbrev pub other_cells : ℕ
other_cells = 2

abbrev pub out_of_effort : ℕ
out_of_effort = 3

abbrev pub out_of_fuel : ℕ
out_of_fuel = 5

abbrev pub bad_arguments : ℕ
bad_arguments = 801

abbrev pub out_of_memory : ℕ
out_of_memory = 803

abbrev pub stopped : ℕ
stopped = 804

-- of a text that is not accepted
abbrev pub IsRejection : ℕ → Type 0
IsRejection n = (n ≡ refused) ⊎ ((n ≡ out_of_effort) ⊎ (n ≡ out_of_memory))

abbrev pub IsVerdictStatus : ℕ → Type 0
IsVerdictStatus n = (n ≡ done) ⊎ IsRejection n

-- of a program that is accepted, in a run that nobody stops
abbrev pub IsRunStatus : ℕ → Type 0
IsRunStatus n = (n ≡ done) ⊎ ((n ≡ bad_arguments) ⊎ ((n ≡ other_cells) ⊎ ((n ≡ out_of_fuel) ⊎ (n ≡ out_of_memory))))

abbrev pub IsOutcomeStatus : ℕ → Type 0
IsOutcomeStatus n = (n ≡ refused) ⊎ ((n ≡ out_of_effort) ⊎ IsRunStatus n)

-- ---- what each means

-- as much effort as it takes
abbrev pub unbounded : ℕ
unbounded = 18446744073709551615

-- how many steps are granted, if they are bounded
abbrev pub granted_by : ℕ → Option ℕ
granted_by effort = if effort == unbounded then None else Some effort

-- the cells of each global
abbrev pub sizes_in : Program → List ℕ
sizes_in program = map (λ (g : Global). g.cells) program.globals

-- all their cells, as far as 64 bits count
abbrev pub cells_of : List Global → ℕ
cells_of globals = min (sum (map (λ (g : Global). g.cells) globals)) (2 ^ 64 - 1)

abbrev pub cells_in : Program → ℕ
cells_in program = cells_of program.globals

-- the globals, with the numbers of a row one after another
abbrev pub memory_from : Program → List ℤ → List NamedCells
memory_from program row = refilled (map zeros program.globals) row

-- the text means a program that every rule takes, with this budget, this depth and so many cells
pub record Accepts (text : List ℕ) (verdict : Verdict) : Type 0 where
  pub program : Program
  pub means : IsProgramOf text program
  pub budget : verdict.budget ≡ budget_of program
  pub depth : IsDepthOf program verdict.depth
  pub cells : verdict.cells ≡ cells_in program

abbrev pub Refuses : List ℕ → ℕ → ℕ → Type 0
Refuses text rule line = IsRefused text (record { line = line; number = rule })

abbrev pub BreaksRule : List ℕ → Type 0
BreaksRule text = (rule line : ℕ) × Refuses text rule line

abbrev pub HasProgram : List ℕ → Type 0
HasProgram text = (program : Program) × IsProgramOf text program

-- the outcome tells what the run came to, and the row has the numbers of its globals
pub record Shows (finished : Finished) (row : List ℤ) (outcome : Outcome) : Type 0 where
  pub result : outcome.result ≡ finished.result
  pub instructions : outcome.instructions ≡ finished.instructions
  pub peak : outcome.peak ≡ finished.peak
  pub numbers : row ≡ row_of finished.memory

-- the program's serial run, from the numbers before, comes to the outcome and to the numbers after, within the fuel
pub record RunsProgram (program : Program) (fuel : ℕ) (arguments before after : List ℤ)
    (outcome : Outcome) : Type 0 where
  pub taken : unmet_in program arguments ≡ None
  pub long : length before ≡ sum (sizes_in program)
  pub finished : Finished
  pub ends : EndsWithinBudget program arguments (memory_from program before) finished
  pub within : finished.instructions ≤ fuel
  pub shown : Shows finished after outcome

-- its serial run, from these numbers, takes more instructions than the fuel allows
pub record ExceedsProgram (program : Program) (fuel : ℕ) (arguments row : List ℤ) : Type 0 where
  pub taken : unmet_in program arguments ≡ None
  pub long : length row ≡ sum (sizes_in program)
  pub more : TakesMore program arguments (memory_from program row) fuel

-- so does that of the program that the text means
abbrev pub Runs : List ℕ → ℕ → List ℤ → List ℤ → List ℤ → Outcome → Type 0
Runs text fuel arguments before after outcome = (program : Program) × IsProgramOf text program ×
    RunsProgram program fuel arguments before after outcome

abbrev pub Exceeds : List ℕ → ℕ → List ℤ → List ℤ → Type 0
Exceeds text fuel arguments row = (program : Program) × IsProgramOf text program ×
    ExceedsProgram program fuel arguments row

-- the arguments are not those of the program that the text means
abbrev pub Lacks : List ℕ → List ℤ → ℕ → Type 0
Lacks text arguments requirement = (program : Program) × IsProgramOf text program ×
    (unmet_in program arguments ≡ Some requirement)

-- the row has not as many cells as the globals of the program that the text means
abbrev pub HasOtherCells : List ℕ → List ℤ → Type 0
HasOtherCells text row = (program : Program) × IsProgramOf text program × (length row ≢ sum (sizes_in program))

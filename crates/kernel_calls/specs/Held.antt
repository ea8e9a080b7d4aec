-- What a host is told of a handle.
use Rattle.std.specs.Prelude.{◌≡◌, ◌≢◌, ◌⊎◌, ℕ, ◌*◌, List, length, sum, take, drop, Option, Some, None, ℤ, slice_get}
use Rattle.program.specs.declared.function.Program.{Program}
use Rattle.store.specs.Requirements.{unmet_in}
use Rattle.kernel_calls.specs.Told.{Accepts, ExceedsProgram, IsRunStatus, RunsProgram, sizes_in}
use Rattle.kernel_calls.specs.Told.{bad_arguments, done, other_cells, out_of_fuel, out_of_memory, stopped}
use Rattle.kernel_calls.specs.declared.told.Outcome.{Outcome}
use Rattle.kernel_calls.specs.declared.told.Verdict.{Verdict}

abbrev pub closed : ℕ
closed = 4

abbrev pub IsHeldStatus : ℕ → Type 0
IsHeldStatus n = (n ≡ closed) ⊎ ((n ≡ stopped) ⊎ IsRunStatus n)

abbrev pub IsShareStatus : ℕ → Type 0
IsShareStatus n = (n ≡ done) ⊎ ((n ≡ closed) ⊎ (n ≡ out_of_memory))

-- of the program that is held
abbrev pub OfHeld : Option Program → (Program → Type 0) → Type 0
OfHeld handle Is = (program : Program) × (handle ≡ Some program) × Is program

-- the text is accepted, and the handle holds the program that it means
pub record Opens (text : List ℕ) (verdict : Verdict) (handle : Option Program) : Type 0 where
  pub accepts : Accepts text verdict
  pub held : handle ≡ Some accepts.program

-- ---- a run

-- the serial run of the program that is held, from the numbers before, comes to the outcome and to the numbers after,
-- within the fuel
pub record RunsHeld (handle : Option Program) (fuel : ℕ) (arguments before after : List ℤ)
    (outcome : Outcome) : Type 0 where
  pub program : Program
  pub held : handle ≡ Some program
  pub runs : RunsProgram program fuel arguments before after outcome

-- it takes more instructions than the fuel allows
pub record ExceedsHeld (handle : Option Program) (fuel : ℕ) (arguments row : List ℤ) : Type 0 where
  pub program : Program
  pub held : handle ≡ Some program
  pub exceeds : ExceedsProgram program fuel arguments row

-- the arguments are not those of the program that is held
pub record LacksHeld (handle : Option Program) (arguments : List ℤ) (requirement : ℕ) : Type 0 where
  pub program : Program
  pub held : handle ≡ Some program
  pub lacks : unmet_in program arguments ≡ Some requirement

-- the row has not as many cells as the globals of the program that is held
pub record HasOtherCellsHeld (handle : Option Program) (row : List ℤ) : Type 0 where
  pub program : Program
  pub held : handle ≡ Some program
  pub long : length row ≢ sum (sizes_in program)

-- ---- many

-- what `tapirvm_run` promises of its outcome
pub record IsRun (handle : Option Program) (fuel : ℕ) (arguments before after : List ℤ)
    (outcome : Outcome) : Type 0 where
  pub ran : outcome.status ≡ done → RunsHeld handle fuel arguments before after outcome
  pub exceeds : outcome.status ≡ out_of_fuel → ExceedsHeld handle fuel arguments before
  pub lacks : outcome.status ≡ bad_arguments → LacksHeld handle arguments outcome.requirement
  pub other : outcome.status ≡ other_cells → HasOtherCellsHeld handle before
  pub nothing : outcome.status ≡ closed → handle ≡ None
  pub kept : outcome.status ≢ done → after ≡ before
  pub statuses : IsHeldStatus outcome.status

-- the numbers of a row, each of which has so many after those of the row before it
abbrev pub numbers_of : ℕ → ℕ → List ℤ → List ℤ
numbers_of each row all = take each (drop (row * each) all)

-- each outcome is that of a run over its row, and what no row has stays as it was
pub record AreRuns (handle : Option Program) (fuel arguments_each cells_each : ℕ) (arguments before after : List ℤ)
    (outcomes : List Outcome) : Type 0 where
  pub runs : (row : ℕ) (outcome : Outcome) → slice_get outcomes row ≡ Some outcome →
      IsRun handle fuel (numbers_of arguments_each row arguments) (numbers_of cells_each row before)
      (numbers_of cells_each row after) outcome
  pub others : drop (length outcomes * cells_each) after ≡ drop (length outcomes * cells_each) before

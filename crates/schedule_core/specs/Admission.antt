-- Whether a run may begin, and why it has no answer where it has none.
use Rattle.std.specs.Prelude.{◌≡◌, ◌<◌, ◌≤◌, ℕ, List, Some, None, Result, Ok, Err, ℤ}
use Rattle.program.specs.declared.function.Program.{Program}
use Rattle.serial_machine.specs.store.Cells.{NamedCells}
use Rattle.serial_machine.specs.store.Requirements.{unmet_in}
use Rattle.serial_machine.specs.store.declared.outcome.RunFault.{RunFault}
use Rattle.serial_machine.specs.store.declared.outcome.RunFault.TheVariants.{BadArguments, BadWorkers, OutOfMemory}
use Rattle.serial_machine.specs.store.declared.outcome.RunFault.TheVariants.{Stopped}

abbrev pub IsNumberOfWorkers : ℕ → Type 0
IsNumberOfWorkers workers = (0 < workers) × (workers ≤ 64)

-- the arguments are those that `main` takes, and there are from 1 to 64 workers
abbrev pub MayBegin : Program → List ℤ → ℕ → Type 0
MayBegin program arguments workers = (unmet_in program arguments ≡ None) × IsNumberOfWorkers workers

-- 801 for the arguments, else 802 for the number of workers, and both hand the memory back; only a run that may begin
-- has another fault
abbrev pub IsRefusal : Program → List ℤ → List NamedCells → ℕ → RunFault → Type 0
IsRefusal program arguments memory workers (BadArguments requirement m) =
    (unmet_in program arguments ≡ Some requirement) × (m ≡ memory)
IsRefusal program arguments memory workers (BadWorkers m) = (unmet_in program arguments ≡ None) ×
    (¬ IsNumberOfWorkers workers) × (m ≡ memory)
IsRefusal program arguments memory workers OutOfMemory = MayBegin program arguments workers
IsRefusal program arguments memory workers Stopped = MayBegin program arguments workers

-- only a run that may begin has an answer, and a fault says why there is none
abbrev pub IsAdmitted : {T : Type 0} → Program → List ℤ → List NamedCells → ℕ → Result T RunFault → Type 0
IsAdmitted program arguments memory workers (Ok answer) = MayBegin program arguments workers
IsAdmitted program arguments memory workers (Err fault) = IsRefusal program arguments memory workers fault

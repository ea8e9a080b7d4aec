-- What a host is told of a run that does not begin is why it does not.
use Rattle.std.proofs.Common.{◌≡◌, ◌∙◌, ℕ, ℤ, List, Option, None, Some, ap, arith, sym}
use Rattle.program.specs.declared.function.Program.{Program}
use Rattle.schedule_core.specs.Admission.{IsNumberOfWorkers, IsRefusal}
use Rattle.store.specs.Cells.{NamedCells}
use Rattle.store.specs.Requirements.{unmet_in}
use Rattle.store.specs.declared.outcome.RunFault.{RunFault}
use Rattle.store.specs.declared.outcome.RunFault.TheVariants.{BadArguments, BadWorkers, OutOfMemory, Stopped}
use Rattle.kernel_calls.specs.Faults.{Tells}
use Rattle.kernel_calls.specs.Replayed.{bad_workers}
use Rattle.kernel_calls.specs.Told.{bad_arguments}
use Rattle.kernel_calls.specs.declared.told.Outcome.{Outcome}

pub lacks_what_is_told : (program : Program) (arguments : List ℤ) (memory : List NamedCells) (workers : ℕ) (fault : RunFault) (outcome : Outcome) →
    IsRefusal program arguments memory workers fault → Tells fault outcome → outcome.status ≡ bad_arguments → unmet_in program arguments ≡ Some outcome.requirement
lacks_what_is_told program arguments memory workers (BadArguments requirement m) outcome why told is = why.0 ∙ ap Some (sym told.1)
lacks_what_is_told program arguments memory workers (BadWorkers m) outcome why told is = absurd (omega (arith, told, is))
lacks_what_is_told program arguments memory workers OutOfMemory outcome why told is = absurd (omega (arith, told, is))
lacks_what_is_told program arguments memory workers Stopped outcome why told is = absurd (omega (arith, told, is))

pub has_other_workers : (program : Program) (arguments : List ℤ) (memory : List NamedCells) (workers : ℕ) (fault : RunFault) (outcome : Outcome) →
    IsRefusal program arguments memory workers fault → Tells fault outcome → outcome.status ≡ bad_workers → ¬ IsNumberOfWorkers workers
has_other_workers program arguments memory workers (BadArguments requirement m) outcome why told is = absurd (let at = told.0 in omega (arith, at, is))
has_other_workers program arguments memory workers (BadWorkers m) outcome why told is = why.1
has_other_workers program arguments memory workers OutOfMemory outcome why told is = absurd (omega (arith, told, is))
has_other_workers program arguments memory workers Stopped outcome why told is = absurd (omega (arith, told, is))

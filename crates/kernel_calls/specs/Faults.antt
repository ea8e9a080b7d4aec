-- What a host is told of a run that does not begin.
use Rattle.std.specs.Prelude.{◌≡◌, ◌⊎◌, ℕ}
use Rattle.store.specs.declared.outcome.RunFault.{RunFault}
use Rattle.store.specs.declared.outcome.RunFault.TheVariants.{BadArguments, BadWorkers, OutOfMemory, Stopped}
use Rattle.kernel_calls.specs.Replayed.{bad_workers}
use Rattle.kernel_calls.specs.Told.{bad_arguments, out_of_memory}
use Rattle.kernel_calls.specs.declared.told.Outcome.{Outcome}

-- nothing stops a run that its host has not begun
abbrev pub Tells : RunFault → Outcome → Type 0
Tells (BadArguments requirement memory) outcome = (outcome.status ≡ bad_arguments) × (outcome.requirement ≡ requirement)
Tells (BadWorkers memory) outcome = outcome.status ≡ bad_workers
Tells OutOfMemory outcome = outcome.status ≡ out_of_memory
Tells Stopped outcome = outcome.status ≡ out_of_memory

abbrev pub IsFaultStatus : ℕ → Type 0
IsFaultStatus n = (n ≡ bad_arguments) ⊎ ((n ≡ bad_workers) ⊎ (n ≡ out_of_memory))

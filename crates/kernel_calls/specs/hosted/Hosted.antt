-- A run that its host holds, and its workers.
use Rattle.std.specs.Prelude.{◌≡◌, ⊤, ℕ, ◌<◌, ◌≤◌, Bool, true, false, is_some}
use Rattle.semantics.specs.Events.{Machine}
use Rattle.program.specs.declared.function.Program.{Program}
use Rattle.shared_run.specs.Resting.{IsAtRest, StaysPut, begun_in}
use Rattle.shared_run.specs.Story.{Origin}
use Rattle.kernel_calls.specs.declared.hosted.met.Met.{Met}
use Rattle.kernel_calls.specs.declared.hosted.met.Met.TheVariants.{Work, Idle, Ended, OutOfMemory, OutOfFuel, Stopped}
use Rattle.kernel_calls.specs.declared.hosted.met.Progress.{Progress}
use Rattle.kernel_calls.specs.declared.hosted.run.HostedRun.{HostedRun}
use Rattle.kernel_calls.specs.declared.hosted.worker.HostedWorker.{HostedWorker}

-- where a run of this module began
abbrev pub start_of : Program → HostedRun → Origin
start_of program x = begun_in program x.board

-- events that were enabled one after the other have led here from this start
pub record RunsFrom (o : Origin) (x : HostedRun) : Type 0 where
  pub rests : IsAtRest o x.board

-- the worker's strand is one of this module
pub record WorksFor (program : Program) (x : HostedWorker) : Type 0 where
  pub strand : StaysPut program x.strand

-- with these counts
pub record IsProgressBy (ended : Bool) (done peak : ℕ) (progress : Progress) : Type 0 where
  pub instructions : progress.instructions ≡ done
  pub peak_is : progress.peak ≡ peak
  pub ended_is : progress.ended ≡ ended

-- how far the machine has come
pub record IsProgress (machine : Machine) (progress : Progress) : Type 0 where
  pub instructions : progress.instructions ≡ machine.core.done
  pub peak : progress.peak ≡ machine.core.peak
  pub ended : progress.ended ≡ is_some machine.core.result

-- what a worker is told of a run that has ended or not, has done so many instructions, and has so much fuel
abbrev pub IsToldBy : Bool → ℕ → ℕ → Met → Type 0
IsToldBy ended done fuel Work = (ended ≡ false) × (done < fuel)
IsToldBy ended done fuel Idle = (ended ≡ false) × (done < fuel)
IsToldBy ended done fuel Ended = ended ≡ true
IsToldBy ended done fuel OutOfFuel = (ended ≡ false) × (fuel ≤ done)
IsToldBy ended done fuel OutOfMemory = ⊤
IsToldBy ended done fuel Stopped = ⊤

abbrev pub IsTold : Machine → ℕ → Met → Type 0
IsTold machine fuel met = IsToldBy (is_some machine.core.result) machine.core.done fuel met

-- What one worker alone answers, and why it has no answer.
use Rattle.std.proofs.Common.{◌≡◌, ℕ, List, ℤ, Option, Some, refl, subst}
use Rattle.std.specs.Prelude.{None, Result, Ok, Err, IfErr, IfOk, IfSome, OnOk}
use Rattle.semantics.specs.SerialMeaning.{Gave}
use Rattle.program.specs.declared.function.Program.{Program}
use Rattle.shared_run.specs.store.Serially.{memory_of_globals}
use Rattle.shared_run.specs.store.Requirements.{unmet_in}
use Rattle.shared_run.specs.store.declared.outcome.Finished.{Finished}
use Rattle.shared_run.specs.store.declared.outcome.RunFault.{RunFault}
use Rattle.shared_run.specs.store.declared.outcome.RunFault.TheVariants.{BadArguments, BadWorkers, OutOfMemory, Stopped}
use Rattle.shared_run.specs.schedule_core.Admission.{IsAdmitted, IsNumberOfWorkers}
use Rattle.shared_run.specs.store.Cells.{NamedCells}
use Rattle.shared_run.specs.Answer.{IsSerialAnswer}
use Rattle.shared_run.specs.Story.{origin}
use Rattle.lone_run.specs.UnderWay.{IsRefusal}
use Rattle.lone_run.specs.serial_machine.SerialPromise.{EndsWithinBudget}

pub answered : (program : Program) (arguments : List ℤ) (memory : List NamedCells) (workers : ℕ) (done : Finished) → EndsWithinBudget program arguments memory done → IsSerialAnswer (origin program arguments memory workers) done
answered program arguments memory workers done e = record {
  serial = record { ending = Gave (Some done.result); memory = memory_of_globals done.memory; count = done.instructions; depth = done.peak };
  is_serial = e.meant.meant;
  result = refl;
  memory = λ g i. refl;
  names = e.meant.names;
  count = refl;
  peak = refl;
}

-- by a run of the same start
pub answered_by : (p program : Program) (a arguments : List ℤ) (m memory : List NamedCells) (workers : ℕ) → p ≡ program → a ≡ arguments → m ≡ memory → (end : Option Finished) (done : Finished) → end ≡ Some done →
    IfSome end (EndsWithinBudget p a m) → IsSerialAnswer (origin program arguments memory workers) done
answered_by p program a arguments m memory workers same_program same_arguments same_memory end done is ends =
    let e : EndsWithinBudget p a m done = subst (λ (x : Option Finished). IfSome x (EndsWithinBudget p a m)) is ends in
    let f : EndsWithinBudget program a m done = subst (λ (x : Program). EndsWithinBudget x a m done) same_program e in
    let g : EndsWithinBudget program arguments m done = subst (λ (x : List ℤ). EndsWithinBudget program x m done) same_arguments f in
    answered program arguments memory workers done (subst (λ (x : List NamedCells). EndsWithinBudget program arguments x done) same_memory g)

pub answered_whole : (program : Program) (arguments : List ℤ) (memory : List NamedCells) (workers : ℕ) (result : Result Finished RunFault) →
    IfOk result (EndsWithinBudget program arguments memory) → IfOk result (IsSerialAnswer (origin program arguments memory workers))
answered_whole program arguments memory workers (Ok done) ends = answered program arguments memory workers done ends
answered_whole program arguments memory workers (Err fault) ends = tt

-- whatever other workers there are
pub answered_for : (program : Program) (arguments : List ℤ) (memory : List NamedCells) (workers : ℕ) (result : Result Finished RunFault) → IfOk result (IsSerialAnswer (origin program arguments memory 1)) →
    IfOk result (IsSerialAnswer (origin program arguments memory workers))
answered_for program arguments memory workers (Ok done) e = record { serial = e.serial; is_serial = e.is_serial; result = e.result; memory = e.memory; names = e.names; count = e.count; peak = e.peak }
answered_for program arguments memory workers (Err fault) e = tt

-- ---- why it has none

pub admitted_alone : {T : Type 0} (program : Program) (arguments : List ℤ) (memory : List NamedCells) (workers : ℕ) → IsNumberOfWorkers workers → (result : Result T RunFault) →
    OnOk result (unmet_in program arguments ≡ None) → IfErr result (IsRefusal program arguments memory) → IsAdmitted program arguments memory workers result
admitted_alone program arguments memory workers number (Ok done) met refused = (met, number)
admitted_alone program arguments memory workers number (Err (BadArguments requirement m)) met refused = refused
admitted_alone program arguments memory workers number (Err (BadWorkers m)) met refused = absurd refused
admitted_alone program arguments memory workers number (Err OutOfMemory) met refused = (refused, number)
admitted_alone program arguments memory workers number (Err Stopped) met refused = (refused, number)

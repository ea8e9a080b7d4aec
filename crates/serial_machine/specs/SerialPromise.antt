-- What the serial run of a program that the verifier took comes to.
use Rattle.std.specs.Prelude.{◌≡◌, ⊤, ℕ, ◌<◌, ◌≤◌, List, ℤ, Result, Ok, Err}
use Rattle.semantics.specs.SerialMeaning.{Outcome, IsSerialMeaning}
use Rattle.program.specs.declared.function.Program.{Program}
use Rattle.store.specs.verifier.Budgets.{budget_of, IsDepthOf}
use Rattle.store.specs.Cells.{NamedCells}
use Rattle.store.specs.Rows.{sizes_of}
use Rattle.store.specs.Serially.{IsMeant, memory_of_globals}
use Rattle.store.specs.declared.outcome.Finished.{Finished}
use Rattle.store.specs.declared.outcome.RunFault.{RunFault}
use Rattle.store.specs.declared.outcome.RunFault.TheVariants.{OutOfMemory}
use Rattle.serial_machine.specs.declared.run.Unfinished.{Unfinished}
use Rattle.serial_machine.specs.declared.run.Unfinished.TheVariants.{Fault, OutOfFuel}

-- the serial meaning, within the budget and the depth that the verifier answers; each global has as many cells as
-- before
pub record EndsWithinBudget (program : Program) (arguments : List ℤ) (memory : List NamedCells) (done : Finished)
    : Type 0 where
  pub meant : IsMeant program arguments memory done
  pub budget : done.instructions ≤ budget_of program
  pub depth : (depth : ℕ) → IsDepthOf program depth → done.peak ≤ depth
  pub sizes : sizes_of done.memory ≡ sizes_of memory

-- 803 is the only fault: it is neither 801, 802 nor 804
abbrev pub EndsOrLacksMemory : Program → List ℤ → List NamedCells → Result Finished RunFault → Type 0
EndsOrLacksMemory program arguments memory (Ok done) = EndsWithinBudget program arguments memory done
EndsOrLacksMemory program arguments memory (Err OutOfMemory) = ⊤
EndsOrLacksMemory program arguments memory other = ⊥

-- the serial meaning, which is within the budget, takes more instructions than the fuel allows
pub record TakesMore (program : Program) (arguments : List ℤ) (memory : List NamedCells) (fuel : ℕ) : Type 0 where
  pub outcome : Outcome
  pub meant : IsSerialMeaning program arguments (memory_of_globals memory) outcome
  pub more : fuel < outcome.count
  pub budget : outcome.count ≤ budget_of program

-- the same within some fuel, which does not last only where the serial meaning takes more; the memory is handed back
-- then
abbrev pub EndsWithinFuel : Program → List ℤ → List NamedCells → ℕ → Result Finished Unfinished → Type 0
EndsWithinFuel program arguments memory fuel (Ok done) = EndsWithinBudget program arguments memory done ×
    (done.instructions ≤ fuel)
EndsWithinFuel program arguments memory fuel (Err (Fault fault)) = EndsOrLacksMemory program arguments memory
    (Err fault)
EndsWithinFuel program arguments memory fuel (Err (OutOfFuel m)) = (m ≡ memory) ×
    TakesMore program arguments memory fuel

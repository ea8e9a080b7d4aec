-- What a run that may be stopped comes to.
use Rattle.std.specs.Prelude.{◌≡◌, ◌⊎◌, ⊤, ℕ, ℤ, ◌≤◌, List}
use Rattle.program.specs.declared.function.Program.{Program}
use Rattle.store.specs.Cells.{NamedCells}
use Rattle.serial_machine.specs.SerialPromise.{EndsWithinBudget, TakesMore}
use Rattle.kernel_calls.specs.Told.{done, other_cells, out_of_fuel, out_of_memory, stopped}
use Rattle.kernel_calls.specs.declared.until.Watched.{Watched}
use Rattle.kernel_calls.specs.declared.until.Watched.TheVariants.{Finished, OutOfFuel, Stopped, OutOfMemory}

abbrev pub IsWatchedStatus : ℕ → Type 0
IsWatchedStatus n = (n ≡ done) ⊎ ((n ≡ other_cells) ⊎ ((n ≡ out_of_fuel) ⊎ ((n ≡ stopped) ⊎ (n ≡ out_of_memory))))

-- the serial run, within the fuel; it takes more; or nothing is said of it
abbrev pub ComesTo : Program → List ℤ → List NamedCells → ℕ → Watched → Type 0
ComesTo program arguments memory fuel (Finished done) = EndsWithinBudget program arguments memory done ×
    (done.instructions ≤ fuel)
ComesTo program arguments memory fuel OutOfFuel = TakesMore program arguments memory fuel
ComesTo program arguments memory fuel Stopped = ⊤
ComesTo program arguments memory fuel OutOfMemory = ⊤

-- A run that may be stopped: where its fuel is spent the serial run takes more.
use Rattle.std.proofs.Common.{◌≡◌, ◌<◌, ◌≤◌, ℕ, ℤ, List, Some, arith, subst}
use Rattle.program.specs.declared.function.Program.{Program}
use Rattle.semantics.specs.SerialMeaning.{Gave}
use Rattle.store.specs.Cells.{NamedCells}
use Rattle.store.specs.Serially.{memory_of_globals}
use Rattle.store.specs.declared.outcome.Finished.{Finished}
use Rattle.serial_machine.specs.SerialPromise.{EndsWithinBudget, TakesMore}
use Rattle.lone_run.specs.UnderWay.{IsRunOf, IsUnderWay}
use Rattle.lone_run.specs.declared.run.LoneRun.{LoneRun}
use Rattle.kernel_calls.specs.Told.{ExceedsProgram, RunsProgram}
use Rattle.kernel_calls.specs.declared.told.Outcome.{Outcome}

pub end_takes_more : (program : Program) (arguments : List ℤ) (memory : List NamedCells) (done : Finished) (fuel : ℕ) → EndsWithinBudget program arguments memory done → fuel < done.instructions →
    TakesMore program arguments memory fuel
end_takes_more program arguments memory done fuel ends more = record {
  outcome = record { ending = Gave (Some done.result); memory = memory_of_globals done.memory; count = done.instructions; depth = done.peak };
  meant = ends.meant.meant;
  more = more;
  budget = ends.budget;
}

less_fuel : (program : Program) (arguments : List ℤ) (memory : List NamedCells) (fuel n : ℕ) → fuel ≤ n → TakesMore program arguments memory n → TakesMore program arguments memory fuel
less_fuel program arguments memory fuel n low t = record { outcome = t.outcome; meant = t.meant; more = (let m = t.more in omega (arith, low, m)); budget = t.budget }

pub takes_more_here : (program : Program) (arguments : List ℤ) (memory : List NamedCells) (fuel n : ℕ) (r : LoneRun) → IsRunOf program arguments memory r →
    (IsUnderWay r → TakesMore r.program.now r.arguments.now r.memory n) → fuel ≤ n → TakesMore program arguments memory fuel
takes_more_here program arguments memory fuel n r of more low =
    less_fuel program arguments memory fuel n low
    (subst (λ (p : Program). TakesMore p arguments memory n) of.0
    (subst (λ (a : List ℤ). TakesMore r.program.now a memory n) of.1 (subst (λ (m : List NamedCells). TakesMore r.program.now r.arguments.now m n) of.2 (more of.3))))

pub ends_here : (program : Program) (arguments : List ℤ) (memory : List NamedCells) (r : LoneRun) (done : Finished) → IsRunOf program arguments memory r →
    EndsWithinBudget r.program.now r.arguments.now r.memory done → EndsWithinBudget program arguments memory done
ends_here program arguments memory r done of ends =
    subst (λ (p : Program). EndsWithinBudget p arguments memory done) of.0
    (subst (λ (a : List ℤ). EndsWithinBudget r.program.now a memory done) of.1 (subst (λ (m : List NamedCells). EndsWithinBudget r.program.now r.arguments.now m done) of.2 ends))

-- more fuel does no harm
pub more_fuel : (program : Program) (fuel more : ℕ) (arguments before after : List ℤ) (outcome : Outcome) → fuel ≤ more → RunsProgram program fuel arguments before after outcome →
    RunsProgram program more arguments before after outcome
more_fuel program fuel more arguments before after outcome low r = record {
  taken = r.taken;
  long = r.long;
  finished = r.finished;
  ends = r.ends;
  within = (let w = r.within in omega (arith, low, w));
  shown = r.shown;
}

-- from numbers that were kept
pub runs_kept : (program : Program) (fuel : ℕ) (arguments before between after : List ℤ) (outcome : Outcome) → between ≡ before → RunsProgram program fuel arguments between after outcome →
    RunsProgram program fuel arguments before after outcome
runs_kept program fuel arguments before between after outcome same r = subst (λ (row : List ℤ). RunsProgram program fuel arguments row after outcome) same r

pub exceeds_kept : (program : Program) (fuel : ℕ) (arguments before between : List ℤ) → between ≡ before → ExceedsProgram program fuel arguments between → ExceedsProgram program fuel arguments before
exceeds_kept program fuel arguments before between same e = subst (λ (row : List ℤ). ExceedsProgram program fuel arguments row) same e

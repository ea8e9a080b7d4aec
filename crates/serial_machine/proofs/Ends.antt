-- What a run comes to is the serial run that the schedule theorem speaks of.
use Rattle.std.proofs.Common.{◌≡◌, ℕ, ◌≤◌, List, Option, Some, None, Result, Err, ℤ, refl, arith, sym, subst, ◌∙◌}
use Rattle.semantics.specs.SerialMeaning.{Gave, Outcome}
use Rattle.program.specs.declared.function.Program.{Program}
use Rattle.store.specs.verifier.Accepted.{IsProgramOf}
use Rattle.store.specs.verifier.Budgets.{budget_of}
use Rattle.store.specs.Cells.{NamedCells}
use Rattle.store.specs.Named.{HasGlobalCells}
use Rattle.store.specs.Rows.{sizes_of}
use Rattle.laws_schedule.specs.Promise.{KeepsItsPromise}
use Rattle.laws_schedule.proofs.Promise.{accepted_programs_keep_their_promise}
use Rattle.store.specs.Requirements.{unmet_in}
use Rattle.store.specs.Serially.{memory_of_globals, IsMeant}
use Rattle.store.specs.declared.outcome.Finished.{Finished}
use Rattle.store.specs.declared.outcome.RunFault.TheVariants.{BadArguments}
use Rattle.serial_machine.specs.SerialPromise.{EndsWithinBudget, EndsWithinFuel}
use Rattle.serial_machine.specs.declared.run.Unfinished.{Unfinished}
use Rattle.serial_machine.specs.declared.run.Unfinished.TheVariants.{Fault, OutOfFuel}
use Rattle.serial_machine.proofs.Globals.{globals_given}
use Rattle.serial_machine.proofs.Arguments.{are_taken}

module _ (text : List ℕ) (program : Program) (accepted : IsProgramOf text program) (arguments : List ℤ) (memory : List NamedCells)
    (none : unmet_in program arguments ≡ None) (globals : HasGlobalCells program memory)
  where
    promise : KeepsItsPromise program arguments (memory_of_globals memory)
    promise = accepted_programs_keep_their_promise text program accepted arguments (memory_of_globals memory) (are_taken program arguments none) (globals_given program memory globals)

    pub within_budget : (done : Finished) → IsMeant program arguments memory done → sizes_of done.memory ≡ sizes_of memory → EndsWithinBudget program arguments memory done
    within_budget done m sizes =
        let o : Outcome = record { ending = Gave (Some done.result); memory = memory_of_globals done.memory; count = done.instructions; depth = done.peak } in
        let same : promise.serial ≡ o = sym (promise.only_one o m.meant) in
        record {
          meant = m;
          budget = subst (λ (x : Outcome). x.count ≤ budget_of program) same promise.within_budget;
          depth = λ depth is. subst (λ (x : Outcome). x.depth ≤ depth) same (promise.within_depth depth is);
          sizes = sizes;
        }

-- the budget is fuel enough
pub lasts : (program : Program) (arguments : List ℤ) (memory m : List NamedCells) (fuel : ℕ) (r : Result Finished Unfinished) → fuel ≡ budget_of program →
    ((requirement : ℕ) → unmet_in program arguments ≡ Some requirement → r ≡ Err (Fault (BadArguments requirement memory))) →
    (unmet_in program arguments ≡ None → EndsWithinFuel program arguments memory fuel r) → r ≡ Err (OutOfFuel m) → ⊥
lasts program arguments memory m fuel r all refused ends is = by (unmet_in program arguments) refl
  where
    by : (o : Option ℕ) → unmet_in program arguments ≡ o → ⊥
    by (Some requirement) unmet = let other : Err (Fault (BadArguments requirement memory)) ≡ Err (OutOfFuel m) = sym (refused requirement unmet) ∙ is in absurd (cc)
    by None met =
        let t = (subst (λ (x : Result Finished Unfinished). EndsWithinFuel program arguments memory fuel x) is (ends met)).1 in
        let more = t.more in
        let most = t.budget in
        omega (arith, more, most, all)

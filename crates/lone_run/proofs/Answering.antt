-- What a serial run answers, as an answer of one worker alone: by whether the arguments are taken.
use Rattle.std.proofs.Common.{◌≡◌, ℕ, List, ℤ, Option, Some, None, refl, sym, subst}
use Rattle.std.specs.Prelude.{Result, Ok, Err, IfOk, IfErr, OnOk}
use Rattle.program.specs.declared.function.Program.{Program}
use Rattle.store.specs.Requirements.{unmet_in}
use Rattle.store.specs.declared.outcome.Finished.{Finished}
use Rattle.store.specs.declared.outcome.RunFault.{RunFault}
use Rattle.store.specs.declared.outcome.RunFault.TheVariants.{BadArguments, BadWorkers, OutOfMemory, Stopped}
use Rattle.store.specs.Cells.{NamedCells}
use Rattle.serial_machine.specs.SerialPromise.{EndsOrLacksMemory, EndsWithinBudget}
use Rattle.lone_run.specs.UnderWay.{IsRefusal}

module _ (program : Program) (arguments : List ℤ) (memory : List NamedCells) where
  -- all three clauses
  abbrev Answers : Result Finished RunFault → Type 0
  Answers r = IfOk r (EndsWithinBudget program arguments memory) × OnOk r (unmet_in program arguments ≡ None) × IfErr r (IsRefusal program arguments memory)

  taken : (r : Result Finished RunFault) → unmet_in program arguments ≡ None → EndsOrLacksMemory program arguments memory r → Answers r
  taken (Ok done) unmet ends = (ends, unmet, tt)
  taken (Err (BadArguments requirement m)) unmet ends = absurd ends
  taken (Err (BadWorkers m)) unmet ends = absurd ends
  taken (Err OutOfMemory) unmet ends = (tt, tt, unmet)
  taken (Err Stopped) unmet ends = absurd ends

  answers : (r : Result Finished RunFault) → ((requirement : ℕ) → unmet_in program arguments ≡ Some requirement → r ≡ Err (BadArguments requirement memory)) →
      (unmet_in program arguments ≡ None → EndsOrLacksMemory program arguments memory r) → Answers r
  answers r refused ends = by (unmet_in program arguments) refl
    where
      by : (o : Option ℕ) → unmet_in program arguments ≡ o → Answers r
      by None unmet = taken r unmet (ends unmet)
      by (Some requirement) unmet = subst Answers (sym (refused requirement unmet)) (tt, tt, (unmet, refl))

  pub ended : (r : Result Finished RunFault) → ((requirement : ℕ) → unmet_in program arguments ≡ Some requirement → r ≡ Err (BadArguments requirement memory)) →
      (unmet_in program arguments ≡ None → EndsOrLacksMemory program arguments memory r) → IfOk r (EndsWithinBudget program arguments memory)
  ended r refused ends = (answers r refused ends).0

  pub met : (r : Result Finished RunFault) → ((requirement : ℕ) → unmet_in program arguments ≡ Some requirement → r ≡ Err (BadArguments requirement memory)) →
      (unmet_in program arguments ≡ None → EndsOrLacksMemory program arguments memory r) → OnOk r (unmet_in program arguments ≡ None)
  met r refused ends = (answers r refused ends).1

  pub refusal : (r : Result Finished RunFault) → ((requirement : ℕ) → unmet_in program arguments ≡ Some requirement → r ≡ Err (BadArguments requirement memory)) →
      (unmet_in program arguments ≡ None → EndsOrLacksMemory program arguments memory r) → IfErr r (IsRefusal program arguments memory)
  refusal r refused ends = (answers r refused ends).2

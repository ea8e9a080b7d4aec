-- What is kept along the serial run of a program that the verifier takes, from its first frame on.
use Rattle.std.proofs.Common.{ℕ, List, [], ℤ}
use Rattle.semantics.specs.Cells.{Memory, globals_of}
use Rattle.laws_conditions.specs.theorem.SerialConditions.{Says, Nothing, KeptSerially}
use Rattle.semantics.specs.State.{root_frame}
use Rattle.program.specs.declared.function.Program.{Program}
use Rattle.verifier.specs.Accepted.{IsProgramOf}
use Rattle.laws_phases.proofs.defined.Starting.{starts_well}
use Rattle.laws_schedule.specs.kinds.Holding.{HasKindedRegisters}
use Rattle.laws_schedule.specs.kinds.Uses.{HasKindedUses}
use Rattle.laws_schedule.proofs.kinds.Kept.{kinds_are_kept, starts_kinded}
use Rattle.laws_schedule.proofs.kinds.Uses.{uses_are_kinded}
use Rattle.laws_schedule.specs.Promise.{AreTaken, HasGlobals}
use Rattle.laws_schedule.proofs.Accepted.{IsTaken, is_taken}
use Rattle.laws_schedule.proofs.Serially.{free_goes, Runs, Found, runs_kept}
use Rattle.laws_schedule.proofs.Starting.{as_many}

-- places, kinds, and values in registers and cells
abbrev pub Along : Program → Says
Along program = Runs program (λ p f. HasKindedRegisters program f)

module _ (text : List ℕ) (program : Program) (accepted : IsProgramOf text program) where
  taken : IsTaken program
  taken = is_taken text program accepted

  pub kept_along : KeptSerially program Nothing (Along program) (Found program)
  kept_along =
      runs_kept program taken.names.named taken.names.objects taken.right.regions taken.right.definedness
      (λ p f. HasKindedRegisters program f) (kinds_are_kept program taken.names.typed taken.names.kinds)

  pub kept_at_root : (arguments : List ℤ) (memory : Memory) → AreTaken program arguments → HasGlobals program memory →
      Along program [] (root_frame program arguments) (globals_of memory)
  kept_at_root arguments memory given globals =
      let count = as_many program arguments given in
      let uses : HasKindedUses program = uses_are_kinded text program accepted in
      let first =
      starts_well program taken.names.named taken.right.regions arguments memory
      (record { main = taken.names.main.there; count = count; globals = globals }) in
      let kinds = starts_kinded program taken.names.kinds uses.main arguments count in
      (((((free_goes, kinds), first.placed), first.values), first.regions), first.registers)

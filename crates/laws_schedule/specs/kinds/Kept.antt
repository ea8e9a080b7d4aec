-- The laws: kinds are kept by every step of every frame, from the start on; so numbers of i32 fit.
use Rattle.std.specs.Prelude.{◌≡◌, List, length, true, ℤ}
use Rattle.semantics.specs.Frames.{Frame}
use Rattle.laws_conditions.specs.theorem.SerialConditions.{Nothing, KeptSerially}
use Rattle.semantics.specs.State.{root_frame}
use Rattle.program.specs.declared.function.Program.{Program}
use Rattle.laws_conditions.specs.rules.Costs.{parameters_of}
use Rattle.laws_phases.specs.defined.Placed.{NoFinds}
use Rattle.laws_phases.specs.facts.Owing.{IsTyped}
use Rattle.laws_schedule.specs.typing.Kinds.{HasKinds}
use Rattle.laws_schedule.specs.zones.ByPhases.{IsKeptBySteps, GivesWidths}
use Rattle.laws_schedule.specs.kinds.Holding.{HasKindedRegisters, Kinded, is_kinded}
use Rattle.laws_schedule.specs.kinds.Uses.{HasKindedUses, TakesNumbers}

-- whatever the other frames do
abbrev pub KindsAreKept : Type 0
KindsAreKept = (prog : Program) → IsTyped prog → HasKinds prog → IsKeptBySteps prog (λ p f. HasKindedRegisters prog f)

abbrev pub KindsAreKeptSerially : Type 0
KindsAreKeptSerially = (prog : Program) → IsTyped prog → HasKinds prog → KeptSerially prog Nothing (Kinded prog) NoFinds

-- the first frame, where `main` takes numbers
abbrev pub StartsKinded : Type 0
StartsKinded = (prog : Program) → HasKinds prog → TakesNumbers prog prog.main.0 → (arguments : List ℤ) →
    length arguments ≡ parameters_of prog prog.main.0 →
    HasKindedRegisters prog (root_frame prog arguments)

abbrev pub WidthsAreGiven : Type 0
WidthsAreGiven = (prog : Program) → IsTyped prog → HasKinds prog → HasKindedUses prog →
    GivesWidths prog (λ p f. HasKindedRegisters prog f)

-- the test says just that
pub record IsTested (prog : Program) (f : Frame) : Type 0 where
  pub sound : is_kinded prog f ≡ true → HasKindedRegisters prog f
  pub complete : HasKindedRegisters prog f → is_kinded prog f ≡ true

abbrev pub KindsAreTested : Type 0
KindsAreTested = (prog : Program) (f : Frame) → IsTested prog f

-- the same of conditions that are given by tests
abbrev pub WidthsAreGivenByTests : Type 0
WidthsAreGivenByTests = (prog : Program) → IsTyped prog → HasKinds prog → HasKindedUses prog →
    GivesWidths prog (λ p f. is_kinded prog f ≡ true)

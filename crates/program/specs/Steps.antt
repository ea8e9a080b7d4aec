-- What the steps of a block say together.
use Rattle.std.specs.Prelude.{List, [], ◌∷◌, Option, Some, None}
use Rattle.program.specs.declared.instruction.Instruction.{Instruction}
use Rattle.program.specs.declared.instruction.Step.{Step}

abbrev pub or_else : {A : Type 0} → Option A → Option A → Option A
or_else None other = other
or_else (Some a) other = Some a

-- what the first step says that says anything
abbrev pub first_said : {A : Type 0} → (Instruction → Option A) → List Step → Option A
first_said says [] = None
first_said says (step ∷ steps) = or_else (says step.instruction) (first_said says steps)

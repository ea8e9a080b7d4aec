-- The law: in a program that a text means each form of an annotation is limited, and each number that stands in a
-- form's place is one of 64 bits.
use Rattle.std.specs.Prelude.{ℕ, ◌≤◌, ◌^◌, List, Option, Some, None, Ok, All, unsigned_abs}
use Rattle.syntax.specs.declared.module.Module.{Module}
use Rattle.ir_reader.specs.Reading.{Answers}
use Rattle.types.specs.Meaning.{Means}
use Rattle.program.specs.declared.annotation.Inequality.{Inequality}
use Rattle.program.specs.declared.annotation.Pending.{Pending}
use Rattle.program.specs.declared.annotation.Zone.{Zone}
use Rattle.program.specs.declared.function.Block.{Block}
use Rattle.program.specs.declared.function.Function.{Function}
use Rattle.program.specs.declared.function.Program.{Program}
use Rattle.program.specs.declared.instruction.Argument.{Argument}
use Rattle.program.specs.declared.instruction.Argument.TheVariants as argument
use Rattle.program.specs.declared.instruction.Case.{Case}
use Rattle.program.specs.declared.instruction.Ending.{Ending}
use Rattle.program.specs.declared.instruction.Instruction.{Instruction}
use Rattle.program.specs.declared.instruction.Instruction.TheVariants as instruction
use Rattle.program.specs.declared.instruction.Phi.{Phi}
use Rattle.program.specs.declared.instruction.PhiEntry.{PhiEntry}
use Rattle.program.specs.declared.instruction.Step.{Step}
use Rattle.program.specs.declared.instruction.Terminator.{Terminator}
use Rattle.program.specs.declared.instruction.Terminator.TheVariants as terminator
use Rattle.laws_verdict.specs.Sums.{IsWord}
use Rattle.laws_verdict.specs.Limited.{IsLimited}

-- some text is read as a module that means the program, whatever its other rules say of it
pub record IsRead (program : Program) : Type 0 where
  pub text : List ℕ
  pub whole : Module
  pub answers : Answers text (Ok whole)
  pub means : Means whole (Ok program)

-- ---- annotations

pub record AreSidesLimited (q : Inequality) : Type 0 where
  pub low : IsLimited q.low
  pub high : IsLimited q.high

pub record AreEndsLimited (z : Zone) : Type 0 where
  pub low : IsLimited z.low
  pub high : IsLimited z.high

-- ---- numbers

abbrev pub IsArgumentWord : Argument → Type 0
IsArgumentWord (argument.Number x) = IsWord x
IsArgumentWord (argument.Object name) = Unit {0}

-- of an instruction of which a rule on numbers, zones or costs speaks
abbrev pub HasWords : Instruction → Type 0
HasWords (instruction.Binary d operator width x y) = IsWord x × IsWord y
HasWords (instruction.Compare d predicate width x y) = IsWord x × IsWord y
HasWords (instruction.Convert d conversion x) = IsWord x
HasWords (instruction.ElementPointer d object index) = IsWord index
HasWords (instruction.StoreZeros cells object) = cells ≤ 2 ^ 63
HasWords (instruction.Call d callee arguments) = All IsArgumentWord arguments
HasWords other = Unit {0}

abbrev pub IsCaseNumber : Case → Type 0
IsCaseNumber c = unsigned_abs c.number ≤ 2 ^ 63

abbrev pub EndsInWords : Terminator → Type 0
EndsInWords (terminator.Switch width value default cases) = All IsCaseNumber cases
EndsInWords (terminator.Return (Some x)) = IsWord x
EndsInWords other = Unit {0}

abbrev pub TakesWords : Phi → Type 0
TakesWords phi = All (λ (e : PhiEntry). IsWord e.value) phi.entries

-- ---- all of it

pub record IsStepLimited (step : Step) : Type 0 where
  pub shows : All AreSidesLimited step.shows
  pub words : HasWords step.instruction

pub record IsEndLimited (ending : Ending) : Type 0 where
  pub shows : All AreSidesLimited ending.shows
  pub words : EndsInWords ending.terminator

abbrev pub IsEndLimitedIfAny : Option Ending → Type 0
IsEndLimitedIfAny None = Unit {0}
IsEndLimitedIfAny (Some ending) = IsEndLimited ending

pub record IsBlockLimited (block : Block) : Type 0 where
  pub keeps : All AreSidesLimited block.keeps
  pub pending : All (λ (p : Pending). AreEndsLimited p.zone) block.pending
  pub calls : IsLimited block.left.self_calls
  pub instructions : IsLimited block.left.instructions
  pub foot : All AreEndsLimited block.foot
  pub phis : All TakesWords block.phis
  pub steps : All IsStepLimited block.steps
  pub ending : IsEndLimitedIfAny block.ending

pub record IsFunctionLimited (function : Function) : Type 0 where
  pub requirements : All AreSidesLimited function.requirements
  pub guarantees : All AreSidesLimited function.guarantees
  pub zones : All AreEndsLimited function.zones
  pub measure : IsLimited function.measure.form
  pub blocks : All IsBlockLimited function.blocks

abbrev pub FormsAreLimited : Type 0
FormsAreLimited = (program : Program) → IsRead program → All IsFunctionLimited program.functions

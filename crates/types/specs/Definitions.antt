-- Which registers phis and instructions define.
use Rattle.std.specs.Prelude.{◌≡◌, ℕ, ◌≤◌, List, Option, Some, None, slice_get}
use Rattle.linear.specs.declared.form.RegisterId.{RegisterId}
use Rattle.program.specs.declared.function.Block.{Block}
use Rattle.program.specs.declared.function.Function.{Function}
use Rattle.program.specs.declared.instruction.Instruction.{Instruction}
use Rattle.program.specs.declared.instruction.Instruction.TheVariants as instruction
use Rattle.program.specs.declared.instruction.Phi.{Phi}
use Rattle.syntax.specs.declared.instruction.Instruction.{Instruction as InstructionText}
use Rattle.syntax.specs.declared.instruction.Instruction.TheVariants as text
use Rattle.syntax.specs.declared.instruction.Phi.{Phi as PhiText}
use Rattle.syntax.specs.declared.instruction.Step.{Step as StepText}
use Rattle.syntax.specs.declared.module.Block.{Block as BlockText}
use Rattle.syntax.specs.declared.module.Function.{Function as FunctionText}
use Rattle.syntax.specs.declared.module.Parameter.{Parameter as ParameterText}
use Rattle.syntax.specs.declared.module.Parameter.TheVariants as parameter
use Rattle.types.specs.Apart.{IsBlockAt, IsInstructionAt, parameters_at}

abbrev pub IsFrom : ℕ → Option RegisterId → Type 0
IsFrom n None = Unit {0}
IsFrom n (Some register) = n ≤ register.0

-- the register that the instruction defines, if any, is none of the first n
abbrev pub DefinesFrom : ℕ → Instruction → Type 0
DefinesFrom n (instruction.Binary register operator width left right) = n ≤ register.0
DefinesFrom n (instruction.Compare register predicate width left right) = n ≤ register.0
DefinesFrom n (instruction.Convert register conversion value) = n ≤ register.0
DefinesFrom n (instruction.Alloca register alloca) = n ≤ register.0
DefinesFrom n (instruction.ElementPointer register base index) = n ≤ register.0
DefinesFrom n (instruction.Load register at) = n ≤ register.0
DefinesFrom n (instruction.Call register callee arguments) = IsFrom n register
DefinesFrom n (instruction.StartRegion register) = n ≤ register.0
DefinesFrom n other = Unit {0}

-- no phi and no instruction of the program defines a parameter, which are the first registers of a function
pub record KeepsParameters (functions : List Function) : Type 0 where
  pub by_instructions : (f b s : ℕ) (what : Instruction) → IsInstructionAt functions f b s what →
      DefinesFrom (parameters_at functions f) what
  pub by_phis : (f b i : ℕ) (block : Block) (phi : Phi) → IsBlockAt functions f b block →
      slice_get block.phis i ≡ Some phi
      → parameters_at functions f ≤ phi.register.0

-- ---- of a text

abbrev pub parameter_name : ParameterText → List ℕ
parameter_name (parameter.Number name) = name
parameter_name (parameter.Pointer name cells) = name

-- a parameter of the function has this name
abbrev pub IsParameterName : List ParameterText → List ℕ → Type 0
IsParameterName parameters name = (i : ℕ) × (one : ParameterText) × (slice_get parameters i ≡ Some one) ×
    (parameter_name one ≡ name)

-- the name that an instruction defines, if it defines one
abbrev pub defined_name : InstructionText → Option (List ℕ)
defined_name (text.Binary register operator width left right) = Some register
defined_name (text.Compare register predicate width left right) = Some register
defined_name (text.Convert register conversion value) = Some register
defined_name (text.Alloca register size) = Some register
defined_name (text.ElementPointer register base index) = Some register
defined_name (text.Load register address) = Some register
defined_name (text.Call register callee arguments) = register
defined_name (text.StartRegion register) = Some register
defined_name other = None

-- no phi and no instruction of the function defines the name of a parameter again
pub record DefinesAnew (function : FunctionText) : Type 0 where
  pub by_phis : (b i : ℕ) (block : BlockText) (phi : PhiText) → slice_get function.blocks b ≡ Some block →
      slice_get block.phis i ≡ Some phi
      → IsParameterName function.parameters phi.register → ⊥
  pub by_instructions : (b s : ℕ) (block : BlockText) (step : StepText) (name : List ℕ) →
      slice_get function.blocks b ≡ Some block
      → slice_get block.steps s ≡ Some step →
      defined_name step.instruction ≡ Some name → IsParameterName function.parameters name → ⊥

abbrev pub EachDefinesAnew : List FunctionText → Type 0
EachDefinesAnew functions = (f : ℕ) (function : FunctionText) → slice_get functions f ≡ Some function →
    DefinesAnew function

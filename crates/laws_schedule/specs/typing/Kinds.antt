-- Instructions define and use registers of their kinds.
use Rattle.std.specs.Prelude.{◌≡◌, ℕ, List, Option, Some, None, All, Ok, true, slice_get}
use Rattle.linear.specs.declared.form.RegisterId.{RegisterId}
use Rattle.semantics.specs.Frames.{Does, Ends, item_at}
use Rattle.program.specs.declared.function.Block.{Block}
use Rattle.program.specs.declared.function.Function.{Function}
use Rattle.program.specs.declared.function.Parameter.{Parameter}
use Rattle.program.specs.declared.function.Parameter.TheVariants as parameter
use Rattle.program.specs.declared.function.Program.{Program}
use Rattle.program.specs.declared.function.RegisterKind.{RegisterKind}
use Rattle.program.specs.declared.function.RegisterKind.TheVariants as kind
use Rattle.program.specs.declared.identifier.FunctionId.{FunctionId}
use Rattle.program.specs.declared.instruction.Argument.{Argument}
use Rattle.program.specs.declared.instruction.Argument.TheVariants as argument
use Rattle.program.specs.declared.instruction.Instruction.{Instruction}
use Rattle.program.specs.declared.instruction.Instruction.TheVariants as instruction
use Rattle.program.specs.declared.instruction.Operand.{Operand}
use Rattle.program.specs.declared.instruction.Operand.TheVariants as operand
use Rattle.program.specs.declared.instruction.Phi.{Phi}
use Rattle.program.specs.declared.instruction.PhiEntry.{PhiEntry}
use Rattle.program.specs.declared.instruction.Terminator.{Terminator}
use Rattle.program.specs.declared.instruction.Terminator.TheVariants as terminator
use Rattle.syntax.specs.declared.module.Module.{Module}
use Rattle.syntax.specs.declared.operator.Width.{Width}
use Rattle.syntax.specs.declared.operator.Width.TheVariants.{Bits64}
use Rattle.ir_reader.specs.Kept.{IsKeptModule}
use Rattle.types.specs.names.Layout.{target_width}
use Rattle.types.specs.names.Operand.{fits_width}
use Rattle.program.specs.Widths.{source_width}
use Rattle.types.specs.Meaning.{Means}

-- the register of this number is of the kind
abbrev pub IsOfKind : List RegisterKind → ℕ → RegisterKind → Type 0
IsOfKind registers r kind = slice_get registers r ≡ Some kind

-- a number of the width, or a register that holds one
abbrev pub IsNumber : List RegisterKind → Width → Operand → Type 0
IsNumber registers width (operand.Number number) = fits_width width number ≡ true
IsNumber registers width (operand.Register register) = IsOfKind registers register.0 (kind.Number width)

abbrev pub IsNumberIfAny : List RegisterKind → Option Operand → Type 0
IsNumberIfAny registers None = Unit {0}
IsNumberIfAny registers (Some value) = IsNumber registers Bits64 value

abbrev pub IsResult : List RegisterKind → Option RegisterId → Type 0
IsResult registers None = Unit {0}
IsResult registers (Some register) = IsOfKind registers register.0 (kind.Number Bits64)

abbrev pub IsArgument : List RegisterKind → Argument → Type 0
IsArgument registers (argument.Number value) = IsNumber registers Bits64 value
IsArgument registers (argument.Object name) = Unit {0}

abbrev pub IsKinded : List RegisterKind → Instruction → Type 0
IsKinded registers (instruction.Binary d operator width x y) =
    IsOfKind registers d.0 (kind.Number width) × IsNumber registers width x × IsNumber registers width y
IsKinded registers (instruction.Compare d predicate width x y) = IsOfKind registers d.0 kind.Truth ×
    IsNumber registers width x × IsNumber registers width y
IsKinded registers (instruction.Convert d conversion x) =
    IsOfKind registers d.0 (kind.Number (target_width conversion)) × IsNumber registers (source_width conversion) x
IsKinded registers (instruction.Alloca d alloca) = IsOfKind registers d.0 kind.Object
IsKinded registers (instruction.ElementPointer d base index) = IsOfKind registers d.0 kind.Element ×
    IsNumber registers Bits64 index
IsKinded registers (instruction.Load d at) = IsOfKind registers d.0 (kind.Number Bits64)
IsKinded registers (instruction.Store x at) = IsNumber registers Bits64 x
IsKinded registers (instruction.StoreZeros cells base) = Unit {0}
IsKinded registers (instruction.AtomicAdd at x) = IsNumber registers Bits64 x
IsKinded registers (instruction.Call d callee arguments) =
    IsResult registers d × ((k : ℕ) (one : Argument) → slice_get arguments k ≡ Some one → IsArgument registers one)
IsKinded registers (instruction.StartRegion d) = IsOfKind registers d.0 kind.Region

abbrev pub IsKindedEnd : List RegisterKind → Terminator → Type 0
IsKindedEnd registers (terminator.Jump target) = Unit {0}
IsKindedEnd registers (terminator.Branch condition x y) = IsOfKind registers condition.0 kind.Truth
IsKindedEnd registers (terminator.Switch width value default cases) = IsNumber registers width value
IsKindedEnd registers (terminator.Return value) = IsNumberIfAny registers value
IsKindedEnd registers (terminator.Detach region body continuation) = IsOfKind registers region.0 kind.Region
IsKindedEnd registers (terminator.Reattach region continuation) = IsOfKind registers region.0 kind.Region
IsKindedEnd registers (terminator.Sync region target) = IsOfKind registers region.0 kind.Region

pub record IsKindedPhi (registers : List RegisterKind) (phi : Phi) : Type 0 where
  pub register : IsOfKind registers phi.register.0 (kind.Number phi.width)
  pub entries : All (λ (e : PhiEntry). IsNumber registers phi.width e.value) phi.entries

-- a number for a number, an object for a pointer
abbrev pub IsPassed : Parameter → Argument → Type 0
IsPassed parameter.Number (argument.Number value) = Unit {0}
IsPassed parameter.Number (argument.Object name) = ⊥
IsPassed (parameter.Pointer cells) (argument.Number value) = ⊥
IsPassed (parameter.Pointer cells) (argument.Object name) = Unit {0}

abbrev pub parameter_kind : Parameter → RegisterKind
parameter_kind parameter.Number = kind.Number Bits64
parameter_kind (parameter.Pointer cells) = kind.Object

pub record HasKinds (program : Program) : Type 0 where
  pub parameters : (f i : ℕ) (function : Function) (one : Parameter) → slice_get program.functions f ≡ Some function →
      slice_get function.parameters i ≡ Some one → IsOfKind function.registers i (parameter_kind one)
  pub passes : (f b i k : ℕ) (d : Option RegisterId) (g : FunctionId) (given : List Argument) (callee : Function)
      (one : Argument) (wanted : Parameter) →
      item_at program f b i ≡ Some (Does (instruction.Call d g given)) → slice_get given k ≡ Some one →
      slice_get program.functions g.0 ≡ Some callee →
      slice_get callee.parameters k ≡ Some wanted → IsPassed wanted one
  pub steps : (f b i : ℕ) (what : Instruction) (function : Function) → item_at program f b i ≡ Some (Does what) →
      slice_get program.functions f ≡ Some function → IsKinded function.registers what
  pub ends : (f b i : ℕ) (t : Terminator) (function : Function) → item_at program f b i ≡ Some (Ends t) →
      slice_get program.functions f ≡ Some function →
      IsKindedEnd function.registers t
  pub phis : (f b i : ℕ) (function : Function) (block : Block) (phi : Phi) →
      slice_get program.functions f ≡ Some function →
      slice_get function.blocks b ≡ Some block → slice_get block.phis i ≡ Some phi → IsKindedPhi function.registers phi

-- each program that a module which is read means
abbrev pub KindsAreRight : Type 0
KindsAreRight = (whole : Module) (program : Program) → IsKeptModule whole → Means whole (Ok program) → HasKinds program

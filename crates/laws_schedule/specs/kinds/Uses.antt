-- What instructions name beside numbers in registers: objects, elements, and numbers of the text.
use Rattle.std.specs.Prelude.{◌≡◌, ℕ, List, Option, Some, None, true, All, slice_get, ℤ}
use Rattle.semantics.specs.Arithmetic.{fits}
use Rattle.semantics.specs.Frames.{Does, item_at}
use Rattle.linear.specs.declared.form.RegisterId.{RegisterId}
use Rattle.syntax.specs.declared.operator.BinaryOperator.{BinaryOperator}
use Rattle.syntax.specs.declared.operator.Width.{Width}
use Rattle.program.specs.declared.function.Function.{Function}
use Rattle.program.specs.declared.function.Parameter.TheVariants as parameter
use Rattle.program.specs.declared.function.Program.{Program}
use Rattle.program.specs.declared.function.RegisterKind.TheVariants as kind
use Rattle.program.specs.declared.identifier.ObjectName.TheVariants as object
use Rattle.program.specs.declared.instruction.Address.{Address}
use Rattle.program.specs.declared.instruction.Address.TheVariants as address
use Rattle.program.specs.declared.instruction.Instruction.{Instruction}
use Rattle.program.specs.declared.instruction.Instruction.TheVariants as instruction
use Rattle.program.specs.declared.instruction.Operand.{Operand}
use Rattle.program.specs.declared.instruction.Operand.TheVariants as operand
use Rattle.types.specs.Apart.{InstructionNames}
use Rattle.laws_schedule.specs.typing.Kinds.{IsOfKind}
use Rattle.verifier.specs.Accepted.{IsProgramOf}

-- the cell that an instruction loads, stores or adds to
abbrev pub address_in : Instruction → Option Address
address_in (instruction.Load d at) = Some at
address_in (instruction.Store x at) = Some at
address_in (instruction.AtomicAdd at x) = Some at
address_in other = None

-- each parameter is a number
abbrev pub TakesNumbers : Program → ℕ → Type 0
TakesNumbers prog f = (function : Function) → slice_get prog.functions f ≡ Some function →
    All (λ one. one ≡ parameter.Number) function.parameters

pub record HasKindedUses (prog : Program) : Type 0 where
  -- an object that is named by a parameter is a pointer's
  pub objects : (f b i : ℕ) (what : Instruction) (r : RegisterId) (function : Function) →
      item_at prog f b i ≡ Some (Does what) →
      slice_get prog.functions f ≡ Some function → InstructionNames what (object.Parameter r) →
      IsOfKind function.registers r.0 kind.Object
  -- an address in a register is that of an element
  pub elements : (f b i : ℕ) (what : Instruction) (r : RegisterId) (function : Function) →
      item_at prog f b i ≡ Some (Does what) →
      slice_get prog.functions f ≡ Some function → address_in what ≡ Some (address.Element r) →
      IsOfKind function.registers r.0 kind.Element
  -- a number of the text that arithmetic takes fits its width
  pub numbers : (f b i : ℕ) (d : RegisterId) (operator : BinaryOperator) (width : Width) (x : Operand) (z : ℤ) →
      item_at prog f b i ≡ Some (Does (instruction.Binary d operator width x (operand.Number z))) → fits width z ≡ true
  pub main : TakesNumbers prog prog.main.0

-- so it is with each program that the verifier takes
abbrev pub UsesAreKinded : Type 0
UsesAreKinded = (text : List ℕ) (program : Program) → IsProgramOf text program → HasKindedUses program

-- Which objects the functions of a program name, and which pointers its calls pass.
use Rattle.std.specs.Prelude.{◌≡◌, ℕ, ◌<◌, ◌≤◌, List, Option, Some, slice_get}
use Rattle.linear.specs.declared.form.RegisterId.{RegisterId}
use Rattle.program.specs.Heads.{parameters_in}
use Rattle.program.specs.declared.annotation.Pending.{Pending}
use Rattle.program.specs.declared.annotation.Zone.{Zone}
use Rattle.program.specs.declared.function.Block.{Block}
use Rattle.program.specs.declared.function.Function.{Function}
use Rattle.program.specs.declared.identifier.FunctionId.{FunctionId}
use Rattle.program.specs.declared.identifier.GlobalId.{GlobalId}
use Rattle.program.specs.declared.identifier.ObjectName.{ObjectName}
use Rattle.program.specs.declared.identifier.ObjectName.TheVariants as object
use Rattle.program.specs.declared.instruction.Address.{Address}
use Rattle.program.specs.declared.instruction.Address.TheVariants as address
use Rattle.program.specs.declared.instruction.Argument.{Argument}
use Rattle.program.specs.declared.instruction.Argument.TheVariants as argument
use Rattle.program.specs.declared.instruction.Instruction.{Instruction}
use Rattle.program.specs.declared.instruction.Instruction.TheVariants as instruction
use Rattle.program.specs.declared.instruction.Step.{Step}

-- ---- what is named

abbrev pub AddressNames : Address → ObjectName → Type 0
AddressNames (address.First named) name = named ≡ name
AddressNames (address.Element register) name = ⊥

-- the instruction names the object, as its address, its base or an argument
abbrev pub InstructionNames : Instruction → ObjectName → Type 0
InstructionNames (instruction.ElementPointer register base index) name = base ≡ name
InstructionNames (instruction.Load register at) name = AddressNames at name
InstructionNames (instruction.Store value at) name = AddressNames at name
InstructionNames (instruction.StoreZeros cells base) name = base ≡ name
InstructionNames (instruction.AtomicAdd at value) name = AddressNames at name
InstructionNames (instruction.Call register callee arguments) name = (i : ℕ) ×
    (slice_get arguments i ≡ Some (argument.Object name))
InstructionNames other name = ⊥

-- the block at this place of the function at that place
pub record IsBlockAt (functions : List Function) (f b : ℕ) (block : Block) : Type 0 where
  pub function : Function
  pub at_function : slice_get functions f ≡ Some function
  pub at_block : slice_get function.blocks b ≡ Some block

-- the instruction at this place of the block
pub record IsInstructionAt (functions : List Function) (f b s : ℕ) (what : Instruction) : Type 0 where
  pub block : Block
  pub step : Step
  pub at_block : IsBlockAt functions f b block
  pub at_step : slice_get block.steps s ≡ Some step
  pub does : step.instruction ≡ what

-- the text of the function at this place names the object: an instruction does, or a zone of an annotation
pub data IsNamedBy (functions : List Function) (f : ℕ) (name : ObjectName) : Type 0 where
  in_instruction : (b s : ℕ) (what : Instruction) → IsInstructionAt functions f b s what → InstructionNames what name →
      IsNamedBy functions f name
  in_zone : (i : ℕ) (function : Function) (zone : Zone) → slice_get functions f ≡ Some function →
      slice_get function.zones i ≡ Some zone
      → zone.object ≡ name → IsNamedBy functions f name
  in_pending : (b i : ℕ) (block : Block) (pending : Pending) → IsBlockAt functions f b block →
      slice_get block.pending i ≡ Some pending
      → pending.zone.object ≡ name → IsNamedBy functions f name
  in_foot : (b i : ℕ) (block : Block) (zone : Zone) → IsBlockAt functions f b block →
      slice_get block.foot i ≡ Some zone → zone.object ≡ name
      → IsNamedBy functions f name

-- a function calls another, directly or through others, or is it
pub data Reaches (functions : List Function) (from : ℕ) : ℕ → Type 0 where
  itself : Reaches functions from from
  through : (caller b s : ℕ) (register : Option RegisterId) (callee : FunctionId) (arguments : List Argument) →
      Reaches functions from caller →
      IsInstructionAt functions caller b s (instruction.Call register callee arguments) →
      Reaches functions from callee.0

-- the function at this place names the global, or one that it calls, directly or through others, does
abbrev pub NamesGlobal : List Function → ℕ → GlobalId → Type 0
NamesGlobal functions f global = (to : ℕ) × Reaches functions f to × IsNamedBy functions to (object.Global global)

-- ---- what is passed

-- the number of parameters, which are the function's first registers
abbrev pub parameters_at : List Function → ℕ → ℕ
parameters_at functions f = parameters_in (slice_get functions f)

-- a call goes to its own function or one above, passes each object once, of parameters the caller's own, and no global
-- that the callee names
pub record IsCallApart (functions : List Function) (caller callee : ℕ) (arguments : List Argument) : Type 0 where
  pub upward : callee ≤ caller
  pub distinct : (i j : ℕ) (name : ObjectName) → slice_get arguments i ≡ Some (argument.Object name)
      → slice_get arguments j ≡ Some (argument.Object name) → i ≡ j
  pub own : (i : ℕ) (register : RegisterId) → slice_get arguments i ≡ Some (argument.Object (object.Parameter register))
      → register.0 < parameters_at functions caller
  pub clear : (i : ℕ) (global : GlobalId) → slice_get arguments i ≡ Some (argument.Object (object.Global global)) →
      NamesGlobal functions callee global → ⊥

-- so does each call of the program
abbrev pub CallsApart : List Function → Type 0
CallsApart functions = (caller b s : ℕ) (register : Option RegisterId) (callee : FunctionId)
    (arguments : List Argument) →
    IsInstructionAt functions caller b s (instruction.Call register callee arguments) →
    IsCallApart functions caller callee.0 arguments

-- What a block does with allocas: a load or an atomic addition and the passing of an alloca need its cells to have
-- values; an array store gives them values, and a `store i64` through its own name does where it has one cell.
use Rattle.std.specs.Prelude.{ℕ, ◌==◌, if◌then◌else◌, List, [], ◌∷◌, Option, Some, None, slice_get}
use Rattle.std.specs.List.{flat_map}
use Rattle.linear.specs.declared.form.RegisterId.{RegisterId}
use Rattle.program.specs.declared.function.Alloca.{Alloca as AllocaOf}
use Rattle.program.specs.declared.function.Block.{Block}
use Rattle.program.specs.declared.identifier.ObjectName.{ObjectName}
use Rattle.program.specs.declared.identifier.ObjectName.TheVariants as object
use Rattle.program.specs.declared.instruction.Address.{Address}
use Rattle.program.specs.declared.instruction.Address.TheVariants.{First, Element}
use Rattle.program.specs.declared.instruction.Argument.{Argument}
use Rattle.program.specs.declared.instruction.Argument.TheVariants as argument
use Rattle.program.specs.declared.instruction.Instruction.{Instruction}
use Rattle.program.specs.declared.instruction.Instruction.TheVariants.{Alloca, ElementPointer}
use Rattle.program.specs.declared.instruction.Instruction.TheVariants.{Load, Store, StoreZeros}
use Rattle.program.specs.declared.instruction.Instruction.TheVariants.{AtomicAdd, Call}
use Rattle.program.specs.declared.instruction.Step.{Step}
use Rattle.program.specs.Steps.{first_said}
use Rattle.definedness.specs.declared.act.Act.{Act}
use Rattle.definedness.specs.declared.act.Act.TheVariants.{Needs, Gives}

-- the object of a `getelementptr` with this register
abbrev pub element_in : Instruction → RegisterId → Option ObjectName
element_in (ElementPointer register name index) r = if register.0 == r.0 then Some name else None
element_in other r = None

-- the object that an address of a block lies in, where a `getelementptr` of the block gave it
abbrev pub element_object : List Step → RegisterId → Option ObjectName
element_object steps r = first_said (λ instruction. element_in instruction r) steps

abbrev pub object_read : ℕ → ObjectName → List Act
object_read line (object.Alloca a) = Needs a.0 line ∷ []
object_read line other = []

abbrev pub element_read : ℕ → Option ObjectName → List Act
element_read line None = []
element_read line (Some name) = object_read line name

abbrev pub address_read : List Step → ℕ → Address → List Act
address_read steps line (First name) = object_read line name
address_read steps line (Element register) = element_read line (element_object steps register)

abbrev pub argument_read : ℕ → Argument → List Act
argument_read line (argument.Number value) = []
argument_read line (argument.Object name) = object_read line name

-- an array store sets all cells of an object
abbrev pub object_set : ObjectName → List Act
object_set (object.Alloca a) = Gives a.0 ∷ []
object_set other = []

abbrev pub single_set : ℕ → Option AllocaOf → List Act
single_set a None = []
single_set a (Some alloca) = if alloca.cells == 1 then Gives a ∷ [] else []

-- a store of one number sets an alloca of one cell
abbrev pub first_set : List AllocaOf → ObjectName → List Act
first_set allocas (object.Alloca a) = single_set a.0 (slice_get allocas a.0)
first_set allocas other = []

abbrev pub address_set : List AllocaOf → Address → List Act
address_set allocas (First name) = first_set allocas name
address_set allocas (Element register) = []

abbrev pub instruction_cells : List AllocaOf → List Step → ℕ → Instruction → List Act
instruction_cells allocas steps line (Load register address) = address_read steps line address
instruction_cells allocas steps line (Store value address) = address_set allocas address
instruction_cells allocas steps line (StoreZeros cells name) = object_set name
instruction_cells allocas steps line (AtomicAdd address value) = address_read steps line address
instruction_cells allocas steps line (Call register callee arguments) = flat_map (argument_read line) arguments
instruction_cells allocas steps line other = []

abbrev pub step_cells : List AllocaOf → List Step → Step → List Act
step_cells allocas steps s = instruction_cells allocas steps s.line s.instruction

abbrev pub alloca_acts : List AllocaOf → Block → List Act
alloca_acts allocas block = flat_map (step_cells allocas block.steps) block.steps

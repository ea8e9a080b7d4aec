-- Frames, what their registers hold, and what stands at their place.
use Rattle.std.specs.Prelude.{ℕ, zero, suc, List, [], ◌∷◌, Bool, cond, eqb, Option, Some, None, ℤ, slice_get}
use Rattle.semantics.specs.Paths.{Path}
use Rattle.semantics.specs.Cells.{Object, Shared, Local, Cell}
use Rattle.program.specs.linear.declared.form.RegisterId.{RegisterId}
use Rattle.program.specs.declared.identifier.ObjectName.{ObjectName}
use Rattle.program.specs.declared.identifier.ObjectName.TheVariants.{Global, Alloca, Parameter}
pub use Rattle.program.specs.Blocks.{block_phis}
pub use Rattle.program.specs.Cells.{parameter_cells, alloca_cells, global_cells}
use Rattle.program.specs.declared.function.Block.{Block}
use Rattle.program.specs.declared.function.Function.{Function}
use Rattle.program.specs.declared.function.Program.{Program}
use Rattle.program.specs.declared.instruction.Instruction.{Instruction}
use Rattle.program.specs.declared.instruction.Terminator.{Terminator}
use Rattle.program.specs.declared.instruction.Ending.{Ending}
use Rattle.program.specs.declared.instruction.Step.{Step}
use Rattle.program.specs.declared.instruction.Phi.{Phi}
use Rattle.program.specs.declared.instruction.Operand.{Operand}
use Rattle.program.specs.declared.instruction.Operand.TheVariants.{Number, Register}
use Rattle.program.specs.declared.instruction.Address.{Address}
use Rattle.program.specs.declared.instruction.Address.TheVariants.{First, Element}

-- what a register holds. A sync region is named by the path of the frame whose instruction started it
pub data Value : Type 0 where
  Word : (z : ℤ) → Value
  Truth : (b : Bool) → Value
  Pointer : (c : Cell) → Value
  Region : (owner : Path) → Value

-- by register number; a register without a value is undefined
abbrev pub Registers : Type 0
Registers = ℕ → Option Value

-- what a frame waits for before its next instruction
pub data Wait : Type 0 where
  Free : Wait
  OnRegion : (region : ℕ) → Wait  -- the children that it detached within the region
  -- the call that is its child of this number, whose result goes into the register
  OnCall : (child : ℕ) (register : Option RegisterId) → Wait
  Halted : Wait  -- it trapped

pub data Role : Type 0 where
  Child : (region continuation : ℕ) → Role  -- of a detach within the region, whose parent goes on at the continuation
  Body : Role  -- of a function

pub record Frame : Type 0 where
  -- the place: function, block, and index among the block's steps, where its terminator comes last
  pub function : ℕ
  pub block : ℕ
  pub index : ℕ
  pub registers : Registers
  pub made : ℕ  -- children made so far, by calls and detaches
  pub waits : Wait
  pub role : Role
  pub home : Path  -- the path of the function's own frame, which owns the allocas

-- ---- what stands at a place

abbrev pub and_then : {A B : Type 0} → Option A → (A → Option B) → Option B
and_then None f = None
and_then (Some a) f = f a

-- an instruction or a terminator
pub data Item : Type 0 where
  Does : (instruction : Instruction) → Item
  Ends : (terminator : Terminator) → Item

abbrev pub item_of : List Step → Option Ending → ℕ → Option Item
item_of [] (Some ending) zero = Some (Ends ending.terminator)
item_of (step ∷ steps) ending zero = Some (Does step.instruction)
item_of (step ∷ steps) ending (suc index) = item_of steps ending index
item_of [] one other = None

abbrev pub block_at : Program → ℕ → ℕ → Option Block
block_at prog function block = and_then (slice_get prog.functions function) (λ (f : Function). slice_get f.blocks block)

abbrev pub item_at : Program → ℕ → ℕ → ℕ → Option Item
item_at prog function block index =
    and_then (block_at prog function block) (λ (b : Block). item_of b.steps b.ending index)

abbrev pub phis_at : Program → ℕ → ℕ → List Phi
phis_at prog function block = block_phis (block_at prog function block)

-- ---- objects

abbrev pub cells_in : Program → Option Function → ObjectName → ℕ
cells_in prog f (Global g) = global_cells (slice_get prog.globals g.0)
cells_in prog (Some f) (Alloca a) = alloca_cells (slice_get f.allocas a.0)
cells_in prog (Some f) (Parameter r) = parameter_cells (slice_get f.parameters r.0)
cells_in prog None other = 0

-- the cells of an object as the function's text declares it
abbrev pub cells_of : Program → ℕ → ObjectName → ℕ
cells_of prog function name = cells_in prog (slice_get prog.functions function) name

-- ---- what registers say

abbrev pub word_of : Option Value → Option ℤ
word_of (Some (Word z)) = Some z
word_of other = None

abbrev pub truth_of : Option Value → Option Bool
truth_of (Some (Truth b)) = Some b
truth_of other = None

abbrev pub cell_of : Option Value → Option Cell
cell_of (Some (Pointer c)) = Some c
cell_of other = None

abbrev pub region_of : Option Value → Option Path
region_of (Some (Region p)) = Some p
region_of other = None

abbrev pub set_register : Registers → RegisterId → Value → Registers
set_register r d v = λ x. cond (eqb d.0 x) (Some v) (r x)

abbrev pub word_at : Registers → Operand → Option ℤ
word_at r (Number z) = Some z
word_at r (Register x) = word_of (r x.0)

-- the object that a name stands for in a frame
abbrev pub object_at : Frame → ObjectName → Option Object
object_at f (Global g) = Some (Shared g.0)
object_at f (Alloca a) = Some (Local f.home a.0)
object_at f (Parameter x) = and_then (cell_of (f.registers x.0)) (λ (c : Cell). Some c.object)

abbrev pub first_cell : Object → Cell
first_cell o = record { object = o; index = 0 }

abbrev pub cell_at : Frame → Address → Option Cell
cell_at f (First name) = and_then (object_at f name) (λ (o : Object). Some (first_cell o))
cell_at f (Element x) = cell_of (f.registers x.0)

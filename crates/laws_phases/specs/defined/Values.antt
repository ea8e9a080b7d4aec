-- Cells that have values along the serial run: those of globals, of the objects that parameters point to, and of
-- allocas that a labelling by what is sure and what is due holds.
use Rattle.std.specs.Prelude.{◌≡◌, ℕ, zero, suc, ◌<◌, ◌≤◌, List, [], ◌∷◌, ◌++◌, length, map, Option, Some, None, true}
use Rattle.std.specs.Prelude.{is_some, ◌⊎◌, Contains, slice_get}
use Rattle.semantics.specs.Paths.{Path}
use Rattle.semantics.specs.Cells.{Object, Shared, Local, Cell, Memory}
use Rattle.semantics.specs.Frames.{Frame, Does, item_at, global_cells, cells_of, cell_of, object_at, cell_at}
use Rattle.semantics.specs.SerialMeaning.{Left, Outcome}
use Rattle.laws_conditions.specs.theorem.SerialConditions.{KeptSerially}
use Rattle.linear.specs.declared.form.RegisterId.{RegisterId}
use Rattle.program.specs.declared.identifier.FunctionId.{FunctionId}
use Rattle.program.specs.declared.identifier.AllocaId.{AllocaId}
use Rattle.program.specs.declared.identifier.ObjectName.{ObjectName}
use Rattle.program.specs.declared.identifier.ObjectName.TheVariants as object
use Rattle.program.specs.declared.function.Alloca.{Alloca as AllocaOf}
use Rattle.program.specs.declared.function.Block.{Block}
use Rattle.program.specs.declared.function.Function.{Function}
use Rattle.program.specs.declared.function.Program.{Program}
use Rattle.program.specs.declared.instruction.Address.{Address}
use Rattle.program.specs.declared.instruction.Address.TheVariants as address
use Rattle.program.specs.declared.instruction.Argument.{Argument}
use Rattle.program.specs.declared.instruction.Argument.TheVariants as argument
use Rattle.program.specs.declared.instruction.Instruction.{Instruction}
use Rattle.program.specs.declared.instruction.Instruction.TheVariants as instruction
use Rattle.program.specs.declared.instruction.Operand.{Operand}
use Rattle.program.specs.declared.instruction.Step.{Step}
use Rattle.refusal.specs.declared.broken.Broken.{Broken}
use Rattle.cfg.specs.Edges.{graph_of}
use Rattle.region_match.specs.Rules.{ending_at}
use Rattle.region_match.specs.Tasks.{HasTask}
use Rattle.definedness.specs.AllocaActs.{step_cells}
use Rattle.definedness.specs.Needs.{gives, given_of}
use Rattle.definedness.specs.Definedness.{alloca_table, IsDefinednessBroken}
use Rattle.definedness.specs.Sure.{Labels, IsHeld, IsStored, IsReattach, AreSets}
use Rattle.laws_conditions.specs.rules.Costs.{parameters_of}
use Rattle.types.specs.Apart.{InstructionNames}
use Rattle.laws_phases.specs.defined.Leads.{IsBlock}
use Rattle.laws_phases.specs.defined.Names.{IsNamed}
use Rattle.laws_phases.specs.defined.Placed.{Placed}

-- ---- what the rules on names and types give

-- the cell that the instruction reads
abbrev pub Reads : Instruction → Address → Type 0
Reads (instruction.Load d a) x = a ≡ x
Reads (instruction.AtomicAdd a v) x = a ≡ x
Reads other x = ⊥

-- a step of the block before this one points to an element of the object
pub record IsElement (prog : Program) (f b i : ℕ) (r : RegisterId) : Type 0 where
  pub before : ℕ
  pub name : ObjectName
  pub index : Operand
  pub earlier : before < i
  pub is : item_at prog f b before ≡ Some (Does (instruction.ElementPointer r name index))

pub record NamesObjects (prog : Program) : Type 0 where
  -- a parameter that an instruction names is one of the function's
  pub own : (f b i : ℕ) (what : Instruction) (r : RegisterId) → item_at prog f b i ≡ Some (Does what) →
      InstructionNames what (object.Parameter r) →
      r.0 < parameters_of prog f
  -- an object that is passed has the cells that the callee's parameter asks for
  pub large : (f b i k : ℕ) (d : Option RegisterId) (g : FunctionId) (arguments : List Argument) (name : ObjectName) →
      item_at prog f b i ≡ Some (Does (instruction.Call d g arguments)) →
      slice_get arguments k ≡ Some (argument.Object name) →
      cells_of prog g.0 (object.Parameter (record { 0 = k })) ≤ cells_of prog f name
  -- an array store sets all cells of an alloca
  pub zeros : (f b i n : ℕ) (a : AllocaId) →
      item_at prog f b i ≡ Some (Does (instruction.StoreZeros n (object.Alloca a))) →
      cells_of prog f (object.Alloca a) ≤ n
  -- what is read by its name has a cell
  pub first : (f b i : ℕ) (what : Instruction) (name : ObjectName) → item_at prog f b i ≡ Some (Does what) →
      Reads what (address.First name) →
      0 < cells_of prog f name
  -- an address in a register is that of an element which a step of the block before gave
  pub elements : (f b i : ℕ) (what : Instruction) (r : RegisterId) → item_at prog f b i ≡ Some (Does what) →
      Reads what (address.Element r) →
      IsElement prog f b i r

-- ---- cells with values

-- the first n cells of an object have values
abbrev pub Full : ℕ → Object → Memory → Type 0
Full n o m = (i : ℕ) → i < n → is_some (m (record { object = o; index = i })) ≡ true

-- a global, or an alloca of a frame with fewer than n frames above it
abbrev pub Shallow : ℕ → Object → Type 0
Shallow n (Shared g) = Unit {0}
Shallow n (Local q a) = length q < n

-- the allocas that the first steps of a block store
abbrev pub stored_before : List AllocaOf → List Step → List Step → ℕ → List ℕ
stored_before allocas whole [] i = []
stored_before allocas whole (s ∷ steps) zero = []
stored_before allocas whole (s ∷ steps) (suc i) = gives (step_cells allocas whole s) ++
    stored_before allocas whole steps i

-- a labelling of the alloca, as the rule on allocas has it
abbrev pub IsLabelled : Function → ℕ → Labels → Type 0
IsLabelled function a l = AreSets function.blocks (graph_of function).blocks (map given_of (alloca_table function)) a l

-- sure, or due for the region, before the step of this number
abbrev pub IsHeldAt : Function → Labels → ℕ → Option RegisterId → ℕ → Block → ℕ → Type 0
IsHeldAt function l a region b block i = (l None b ≡ true) ⊎
    ((l region b ≡ true) ⊎ Contains (stored_before function.allocas block.steps block.steps i) a)

-- sure at the end of a block
abbrev pub IsSureAtEnd : Function → ℕ → Labels → ℕ → Type 0
IsSureAtEnd function a l b = IsHeld (IsStored (map given_of (alloca_table function)) a) l None b

-- the cell lies in the object that the frame's text names
pub record LiesIn (prog : Program) (f : Frame) (name : ObjectName) (c : Cell) : Type 0 where
  pub object : object_at f name ≡ Some c.object
  pub within : c.index < cells_of prog f.function name

pub record HasValues (prog : Program) (p : Path) (f : Frame) (m : Memory) : Type 0 where
  pub home : length f.home ≤ length p
  -- parameters point to objects of frames above, whose cells have values
  pub given : (k : ℕ) (c : Cell) → k < parameters_of prog f.function → cell_of (f.registers k) ≡ Some c →
      Shallow (suc (length p)) c.object ×
      Full (cells_of prog f.function (object.Parameter (record { 0 = k }))) c.object m
  pub globals : (g : ℕ) → Full (global_cells (slice_get prog.globals g)) (Shared g) m
  -- what a labelling holds, sure or due, has values: the children are over
  pub sets : (function : Function) (block : Block) (a : ℕ) (l : Labels) (region : Option RegisterId) →
      IsBlock prog f.function f.block function block →
      IsLabelled function a l → IsHeldAt function l a region f.block block f.index →
      Full (cells_of prog f.function (object.Alloca (record { 0 = a }))) (Local f.home a) m
  -- what the steps of the block have pointed to
  pub elements : (j : ℕ) (d : RegisterId) (name : ObjectName) (index : Operand) (c : Cell) → j < f.index →
      item_at prog f.function f.block j ≡ Some (Does (instruction.ElementPointer d name index)) →
      cell_of (f.registers d.0) ≡ Some c → LiesIn prog f name c

-- what the rest of a frame leaves: no cell of a frame above it loses its value, and a child has given values to what is
-- sure wherever it may end
pub record KeepsValues (prog : Program) (p : Path) (f : Frame) (m : Memory) (o : Outcome) : Type 0 where
  pub keeps : (c : Cell) → Shallow (length p) c.object → is_some (m c) ≡ true → is_some (o.memory c) ≡ true
  pub child : o.ending ≡ Left → (function : Function) (block : Block) (a : ℕ) (l : Labels) (task : List ℕ) →
      IsBlock prog f.function f.block function block →
      IsLabelled function a l → HasTask (graph_of function).blocks f.block task →
      ((end : ℕ) → IsReattach (ending_at function.blocks end) → HasTask (graph_of function).blocks end task →
      IsSureAtEnd function a l end) →
      Full (cells_of prog f.function (object.Alloca (record { 0 = a }))) (Local f.home a) o.memory

-- no load and no atomic addition of a frame reads a cell that has no value
abbrev pub ReadsValues : Program → Frame → Memory → Type 0
ReadsValues prog f m = (what : Instruction) (x : Address) (c : Cell) →
    item_at prog f.function f.block f.index ≡ Some (Does what) → Reads what x →
    cell_at f x ≡ Some c → is_some (m c) ≡ true

-- no rule on definedness is broken
abbrev pub IsDefinednessRight : Program → Type 0
IsDefinednessRight prog = (broken : Broken) → IsDefinednessBroken prog broken → ⊥

abbrev pub ValuesAreKept : Type 0
ValuesAreKept = (prog : Program) → IsNamed prog → NamesObjects prog → IsDefinednessRight prog →
    KeptSerially prog (Placed prog) (HasValues prog) (KeepsValues prog)

abbrev pub ReadsHaveValues : Type 0
ReadsHaveValues = (prog : Program) → IsNamed prog → NamesObjects prog → IsDefinednessRight prog →
    (p : Path) (f : Frame) (m : Memory) → HasValues prog p f m →
    ReadsValues prog f m

-- What an instruction uses of the cells, and what lets a frame use a cell at its place.
use Rattle.std.specs.Prelude.{◌≡◌, ◌⊎◌, ◌≤ℤ◌, ◌+ℤ◌, pos, ℕ, Bool, true, List, Some, is_some, All, Any, length}
use Rattle.std.specs.Prelude.{slice_get}
use Rattle.syntax.specs.declared.operator.Mode.{Mode}
use Rattle.syntax.specs.declared.operator.Mode.TheVariants.{Reads, Writes, Adds}
use Rattle.linear.specs.Forms.{value}
use Rattle.linear_shown.specs.Shown.{AllHold}
use Rattle.linear.specs.declared.form.RegisterId.{RegisterId}
use Rattle.semantics.specs.Cells.{Object, Cell}
use Rattle.semantics.specs.Frames.{Frame, object_at, cell_of}
use Rattle.semantics.specs.Effect.{Effect}
use Rattle.program.specs.declared.annotation.Pending.{Pending}
use Rattle.program.specs.declared.annotation.Zone.{Zone}
use Rattle.program.specs.declared.identifier.AllocaId.{AllocaId}
use Rattle.program.specs.declared.identifier.ObjectName.{ObjectName}
use Rattle.program.specs.declared.identifier.ObjectName.TheVariants.{Global, Alloca, Parameter}
use Rattle.program.specs.declared.function.Block.{Block}
use Rattle.program.specs.declared.function.Function.{Function}
use Rattle.program.specs.declared.function.Program.{Program}
use Rattle.program.specs.declared.instruction.Address.{Address}
use Rattle.program.specs.declared.instruction.Address.TheVariants.{Element}
use Rattle.program.specs.declared.instruction.Instruction.{Instruction}
use Rattle.program.specs.declared.instruction.Instruction.TheVariants as instruction
use Rattle.program.specs.declared.instruction.Step.{Step}
use Rattle.types.specs.Apart.{IsNamedBy, NamesGlobal}
use Rattle.region_match.specs.declared.tables.Regions.{Regions}
use Rattle.region_match.specs.declared.task.Task.{Task}
use Rattle.region_match.specs.Tasks.{task_at}
use Rattle.ranges.specs.Places.{facts_at_step, facts_at_end}
use Rattle.ranges.specs.Truth.{operand_value}
use Rattle.footprints.specs.declared.access.Cell.{Cell as NamedCell}
use Rattle.footprints.specs.Zones.{mode_covers, modes_agree}
use Rattle.footprints.specs.Footprints.{pointed}
use Rattle.footprints.specs.Rules.{covering_of, is_own_block}
use Rattle.region_match.specs.Tasks.{tasks_in}
use Rattle.laws_conditions.specs.rules.Costs.{numbers}

-- the effect uses the cell in this way
abbrev pub Uses : Effect → Mode → Cell → Type 0
Uses e Reads c = e.reads c ≡ true
Uses e Writes c = is_some (e.writes c) ≡ true
Uses e Adds c = is_some (e.adds c) ≡ true

-- ---- where a frame stands, and what other phases keep of it there

-- the function and the block of a frame
pub record StandsIn (prog : Program) (f : Frame) (function : Function) (block : Block) : Type 0 where
  pub at_function : slice_get prog.functions f.function ≡ Some function
  pub at_block : slice_get function.blocks f.block ≡ Some block

-- what is known at its place holds of its registers
pub record KnownHolds (prog : Program) (f : Frame) (function : Function) (block : Block) : Type 0 where
  pub at_step : (step : Step) → slice_get block.steps f.index ≡ Some step →
      AllHold (numbers f.registers) (facts_at_step prog.functions function f.block block f.index)
  pub at_end : f.index ≡ length block.steps →
      AllHold (numbers f.registers) (facts_at_end prog.functions function f.block block)

-- a name that the function's text has, or a global that a function has that it calls
abbrev pub IsUsed : List Function → ℕ → ObjectName → Type 0
IsUsed functions f (Global global) = NamesGlobal functions f global
IsUsed functions f (Alloca alloca) = Unit {0}
IsUsed functions f (Parameter register) = IsNamedBy functions f (Parameter register)

-- two of these names that stand for one object are one name
abbrev pub NamesApart : Program → Frame → Type 0
NamesApart prog f =
    (a b : ObjectName) (o : Object) → IsUsed prog.functions f.function a → IsUsed prog.functions f.function b →
    object_at f a ≡ Some o →
    object_at f b ≡ Some o → a ≡ b

-- the instruction loads from, stores at or adds at the address
abbrev pub IsAt : Instruction → Address → Type 0
IsAt (instruction.Load d at) address = at ≡ address
IsAt (instruction.Store a at) address = at ≡ address
IsAt (instruction.AtomicAdd at a) address = at ≡ address
IsAt other address = ⊥

-- at a use of an element its register holds the cell that the `getelementptr` of the block names, as the registers are
abbrev pub ElementsHold : Frame → Block → Type 0
ElementsHold f block =
    (step : Step) (x : RegisterId) (named : NamedCell) (c : Cell) → slice_get block.steps f.index ≡ Some step →
    IsAt step.instruction (Element x) →
    pointed x block.steps ≡ Some named → cell_of (f.registers x.0) ≡ Some c →
    (object_at f named.object ≡ Some c.object) × (operand_value (numbers f.registers) named.index ≡ pos c.index)

-- ---- what lets it use a cell

-- the zone has the cell: it is of the object that the zone's name stands for in the frame, from the low end to before
-- the high end
pub record HoldsCell (f : Frame) (z : Zone) (c : Cell) : Type 0 where
  pub object : object_at f z.object ≡ Some c.object
  pub from_low : value (numbers f.registers) z.low ≤ℤ pos c.index
  pub before_high : (pos c.index +ℤ pos 1) ≤ℤ value (numbers f.registers) z.high

-- one of the zones has the cell for such a use
abbrev pub IsInOne : Frame → List Zone → Mode → Cell → Type 0
IsInOne f zones mode c = Any (λ z. HoldsCell f z c × (mode_covers z.mode mode ≡ true)) zones

-- the block is one of the function's own, and the cell is of an alloca of the function
abbrev pub IsOwnCell : Frame → Bool → Cell → Type 0
IsOwnCell f own c = (own ≡ true) × (a : AllocaId) × (object_at f (Alloca a) ≡ Some c.object)

-- no zone that is pending and has the cell is in the way of such a use
abbrev pub IsClearOf : Frame → List Pending → Mode → Cell → Type 0
IsClearOf f pending mode c = All (λ q. HoldsCell f q.zone c → modes_agree q.zone.mode mode ≡ true) pending

-- the task of a frame's block
abbrev pub task_of : Regions → Frame → Task
task_of regions f = task_at (tasks_in (slice_get regions.functions f.function)) f.block

-- what covers the block has the cell for this use, and nothing that is pending is in its way
pub record MayUse (regions : Regions) (f : Frame) (function : Function) (block : Block) (mode : Mode)
    (c : Cell) : Type 0 where
  pub covered : IsOwnCell f (is_own_block (task_of regions f)) c ⊎
      IsInOne f (covering_of function (task_of regions f)) mode c
  pub clear : IsClearOf f block.pending mode c

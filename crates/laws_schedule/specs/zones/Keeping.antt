-- What a frame and all below it keep to, and what is kept of each frame by every step of every frame.
use Rattle.std.specs.Prelude.{◌≡◌, ◌⊎◌, ℕ, suc, ◌<◌, List, ◌∷◌, Option, Some, true, ℤ, pos, Contains, slice_get}
use Rattle.syntax.specs.declared.operator.Mode.{Mode}
use Rattle.syntax.specs.declared.operator.Mode.TheVariants.{Reads, Writes, Adds}
use Rattle.linear.specs.declared.form.RegisterId.{RegisterId}
use Rattle.semantics.specs.Paths.{Path}
use Rattle.semantics.specs.Below.{Under}
use Rattle.semantics.specs.Cells.{Object, Cell}
use Rattle.semantics.specs.Frames.{OnCall, Body, Frame, Does, block_at, item_at, cell_of, object_at}
use Rattle.semantics.specs.State.{resumed}
use Rattle.laws_conditions.specs.theorem.Conditions.{Zone as Cells, OwnedBelow, Going}
use Rattle.program.specs.declared.annotation.Pending.{Pending}
use Rattle.program.specs.declared.annotation.Zone.{Zone}
use Rattle.program.specs.declared.identifier.FunctionId.{FunctionId}
use Rattle.program.specs.declared.identifier.ObjectName.{ObjectName}
use Rattle.program.specs.declared.function.Function.{Function}
use Rattle.program.specs.declared.function.Program.{Program}
use Rattle.program.specs.declared.instruction.Argument.{Argument}
use Rattle.program.specs.declared.instruction.Instruction.TheVariants as instruction
use Rattle.program.specs.declared.instruction.Operand.{Operand}
use Rattle.laws_phases.specs.ranges.Truth.{operand_value}
use Rattle.laws_phases.specs.region_match.declared.tables.Regions.{Regions}
use Rattle.laws_phases.specs.footprints.Footprints.{pending_of}
use Rattle.laws_phases.specs.footprints.Rules.{covering_of, is_own_block}
use Rattle.laws_conditions.specs.rules.Costs.{numbers}
use Rattle.laws_phases.specs.defined.Placed.{IsPlaced}
use Rattle.laws_phases.specs.facts.Known.{KnownHold}
use Rattle.laws_phases.specs.facts.Kept.{IsEnsured}
use Rattle.laws_schedule.specs.pointers.Given.{KnowsGiven}
use Rattle.laws_phases.specs.zones.Uses.{HoldsCell, IsInOne, task_of}
use Rattle.laws_phases.specs.zones.Edges.{IsPendingFor}

-- ---- cells that are kept to

-- a frame and those below it: the zones of its task, as the registers of a frame read them. Or the children of a region
-- that a frame has: what is pending of the region
pub data Keeping : Type 0 where
  OfTask : (f : Frame) (zones : List Zone) (p : Path) → Keeping
  OfRegion : (f : Frame) (pending : List Pending) (region : RegisterId) (p : Path) → Keeping

-- an alloca of one of the first children, or of a frame below it
abbrev pub MadeBelow : Path → ℕ → Object → Type 0
MadeBelow p made o = (k : ℕ) × (k < made) × OwnedBelow (k ∷ p) o

abbrev pub kept_cells : Program → Keeping → Cells
kept_cells prog (OfTask f zones p) = record {
  reads = λ c. IsInOne f zones Reads c ⊎ OwnedBelow p c.object;
  adds = λ c. IsInOne f zones Adds c ⊎ OwnedBelow p c.object;
  gives = λ v. f.role ≡ Body → IsEnsured prog f v;
}
kept_cells prog (OfRegion f pending region p) = record {
  reads = λ c. IsPendingFor f pending region Reads c ⊎ MadeBelow p f.made c.object;
  adds = λ c. IsPendingFor f pending region Adds c ⊎ MadeBelow p f.made c.object;
  gives = λ v. Unit {0};
}

-- the children of the region, by the annotations of the frame's block
abbrev pub pending_at : Program → Path → Frame → ℕ → Keeping
pending_at prog p f region = OfRegion f (pending_of (block_at prog f.function f.block)) (record { 0 = region }) p

-- it has the cell for such a use; a write is both of the others
abbrev pub LetsUse : Cells → Mode → Cell → Type 0
LetsUse z Reads c = z.reads c
LetsUse z Writes c = z.reads c × z.adds c
LetsUse z Adds c = z.adds c

-- ---- what is kept of a frame

-- the registers of the elements that the block has pointed to so far hold these cells, as the registers are
abbrev pub ElementsAreKept : Program → Frame → Type 0
ElementsAreKept prog f =
    (j : ℕ) (d : RegisterId) (name : ObjectName) (index : Operand) (c : Cell) → j < f.index →
    item_at prog f.function f.block j ≡ Some (Does (instruction.ElementPointer d name index)) →
    cell_of (f.registers d.0) ≡ Some c →
    (object_at f name ≡ Some c.object) × (operand_value (numbers f.registers) index ≡ pos c.index)

-- right behind a call whose result goes into the register
pub record IsBehindCall (prog : Program) (f : Frame) (d : Option RegisterId) : Type 0 where
  pub before : ℕ
  pub index : f.index ≡ suc before
  pub callee : FunctionId
  pub arguments : List Argument
  pub is : item_at prog f.function f.block before ≡ Some (Does (instruction.Call d callee arguments))

-- the frame at p keeps to these cells, and what the phases know of its place is so; base is what others keep of frames
pub record Fits (prog : Program) (regions : Regions) (base : Path → Frame →
    Type 0) (p : Path) (f : Frame) (z : Keeping) : Type 0 where
  pub placed : IsPlaced prog f
  pub based : base p f
  pub knows : Going f → KnownHold prog f
  pub elements : ElementsAreKept prog f
  pub names : KnowsGiven prog.functions p f
  pub at_home : Under f.home p
  pub own : is_own_block (task_of regions f) ≡ true → f.home ≡ p
  -- the zones that cover its block lie within
  pub covers : (function : Function) → slice_get prog.functions f.function ≡ Some function → (y : Zone) →
      Contains (covering_of function (task_of regions f)) y → (c : Cell) → HoldsCell f y c →
      LetsUse (kept_cells prog z) y.mode c
  pub owns : (c : Cell) → OwnedBelow p c.object → (kept_cells prog z).reads c × (kept_cells prog z).adds c
  -- what is true of its result is what was promised
  pub returns : (v : Option ℤ) → IsEnsured prog f v → (kept_cells prog z).gives v
  pub awaits : (k : ℕ) (d : Option RegisterId) → f.waits ≡ OnCall k d → IsBehindCall prog f d

-- a frame that waits for a call knows, with any result that the callee promised, what its place knows; and what holds
-- then of its own result holds now
abbrev pub Expects : Program → Frame → Keeping → Type 0
Expects prog f z =
    (k : ℕ) (d : Option RegisterId) (result : Option ℤ) → f.waits ≡ OnCall k d → (kept_cells prog z).gives result →
    KnownHold prog (resumed f d result) × ((v : Option ℤ) → IsEnsured prog (resumed f d result) v → IsEnsured prog f v)

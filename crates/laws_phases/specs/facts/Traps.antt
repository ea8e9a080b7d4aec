-- The law: where facts hold, no instruction traps for an index, a divisor, an overflow or a shift.
use Rattle.std.specs.Prelude.{◌≡◌, Option, Some, None, Bool, true, is_some, cond, ℤ}
use Rattle.semantics.specs.Paths.{Path}
use Rattle.semantics.specs.Cells.{Cell, Memory}
use Rattle.semantics.specs.Frames.{Frame, Child, Body, Item, Does, Ends, item_at, word_at, truth_of, region_of}
use Rattle.semantics.specs.Frames.{object_at, cell_at}
use Rattle.semantics.specs.Effect.{Effect, Plain, registers_along, case_for, argument_values, action_of}
use Rattle.program.specs.declared.instruction.Instruction.{Instruction}
use Rattle.program.specs.declared.instruction.Instruction.TheVariants as instruction
use Rattle.program.specs.declared.instruction.Terminator.{Terminator}
use Rattle.program.specs.declared.instruction.Terminator.TheVariants as terminator
use Rattle.program.specs.declared.function.Program.{Program}
use Rattle.laws_phases.specs.facts.Known.{KnownHold}
use Rattle.ranges.specs.Rules.{AreRangesRight}

abbrev pub IsThere : {A : Type 0} → Option A → Type 0
IsThere o = is_some o ≡ true

-- the cell is not undefined
abbrev pub IsFull : Memory → Option Cell → Type 0
IsFull m o = (c : Cell) → o ≡ Some c → IsThere (m c)

-- what the instruction reads is there: its operands, objects and cells
abbrev pub FindsAll : Frame → Memory → Instruction → Type 0
FindsAll f m (instruction.Binary d operator width x y) = IsThere (word_at f.registers x) ×
    IsThere (word_at f.registers y)
FindsAll f m (instruction.Compare d predicate width x y) = IsThere (word_at f.registers x) ×
    IsThere (word_at f.registers y)
FindsAll f m (instruction.Convert d conversion x) = IsThere (word_at f.registers x)
FindsAll f m (instruction.Alloca d alloca) = Unit {0}
FindsAll f m (instruction.ElementPointer d object index) = IsThere (object_at f object) ×
    IsThere (word_at f.registers index)
FindsAll f m (instruction.Load d address) = IsThere (cell_at f address) × IsFull m (cell_at f address)
FindsAll f m (instruction.Store x address) = IsThere (cell_at f address) × IsThere (word_at f.registers x)
FindsAll f m (instruction.StoreZeros cells object) = IsThere (object_at f object)
FindsAll f m (instruction.AtomicAdd address x) = IsThere (cell_at f address) × IsThere (word_at f.registers x) ×
    IsFull m (cell_at f address)
FindsAll f m (instruction.Call d callee arguments) = IsThere (argument_values f arguments)
FindsAll f m (instruction.StartRegion d) = Unit {0}

-- and what the terminator reads, with the phis of the edge that is taken; the frame's region and role are those that it
-- names
abbrev pub MayEnd : Program → Path → Frame → Terminator → Type 0
MayEnd prog p f (terminator.Jump target) = IsThere (registers_along prog f target.0)
MayEnd prog p f (terminator.Branch test x y) =
    IsThere (truth_of (f.registers test.0)) × ((b : Bool) → truth_of (f.registers test.0) ≡ Some b →
    IsThere (registers_along prog f (cond b x.0 y.0)))
MayEnd prog p f (terminator.Switch width x default cases) =
    IsThere (word_at f.registers x) × ((z : ℤ) → word_at f.registers x ≡ Some z →
    IsThere (registers_along prog f (case_for z default.0 cases)))
MayEnd prog p f (terminator.Return None) = f.role ≡ Body
MayEnd prog p f (terminator.Return (Some x)) = (f.role ≡ Body) × IsThere (word_at f.registers x)
MayEnd prog p f (terminator.Detach region body continuation) = region_of (f.registers region.0) ≡ Some p
MayEnd prog p f (terminator.Reattach region continuation) = f.role ≡ Child region.0 continuation.0
MayEnd prog p f (terminator.Sync region target) = (region_of (f.registers region.0) ≡ Some p) ×
    IsThere (registers_along prog f target.0)

abbrev pub MayDo : Program → Path → Frame → Memory → Item → Type 0
MayDo prog p f m (Does i) = FindsAll f m i
MayDo prog p f m (Ends t) = MayEnd prog p f t

-- What definedness and regions owe a frame: something stands at its place, and all that it reads is there.
abbrev pub IsReady : Program → Path → Frame → Memory → Type 0
IsReady prog p f m = (x : Item) × (item_at prog f.function f.block f.index ≡ Some x) × MayDo prog p f m x

abbrev pub NoTraps : Type 0
NoTraps =
    (prog : Program) → AreRangesRight prog → (p : Path) (f : Frame) (m : Memory) (e : Effect) → KnownHold prog f →
    IsReady prog p f m →
    action_of prog p f m ≡ Plain e → e.trap ≡ None

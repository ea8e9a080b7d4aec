-- The objects that a frame may use, with their cells as the text declares them.
use Rattle.std.specs.Prelude.{◌≡◌, ℕ, suc, ◌<◌, ◌≤◌, List, Option, Some, ℤ, slice_get}
use Rattle.linear.specs.declared.form.RegisterId.{RegisterId}
use Rattle.semantics.specs.Paths.{Path}
use Rattle.semantics.specs.Below.{Under}
use Rattle.semantics.specs.Cells.{Object, Shared, Local, Cell, Memory}
use Rattle.semantics.specs.Frames.{OnCall, Frame, Does, item_at, global_cells, cells_of, cell_of}
use Rattle.semantics.specs.State.{State}
use Rattle.semantics.specs.Events.{Event, start}
use Rattle.semantics.specs.Replay.{replay}
use Rattle.semantics.specs.Sound.{NeverTraps}
use Rattle.program.specs.declared.function.Program.{Program}
use Rattle.program.specs.declared.identifier.ObjectName.{ObjectName}
use Rattle.program.specs.declared.identifier.ObjectName.TheVariants as object
use Rattle.program.specs.declared.instruction.Instruction.TheVariants as instruction
use Rattle.program.specs.declared.instruction.Operand.{Operand}
use Rattle.laws_conditions.specs.rules.Costs.{parameters_of}
use Rattle.laws_phases.specs.defined.Names.{IsNamed}
use Rattle.laws_phases.specs.defined.Values.{NamesObjects}
use Rattle.laws_schedule.specs.zones.Keeping.{IsBehindCall}
use Rattle.laws_schedule.specs.safe.Kept.{OfAll}

-- the owner is a living function's frame, at p or above it, whose text declares n cells for the alloca at least
pub record OwnsCells (prog : Program) (s : State) (p : Path) (n : ℕ) (owner : Path) (alloca : ℕ) : Type 0 where
  pub above : Under owner p
  pub frame : Frame
  pub lives : s.frames owner ≡ Some frame
  pub owns : frame.home ≡ owner
  pub cells : n ≤ cells_of prog frame.function (object.Alloca (record { 0 = alloca }))

-- a frame at p may use the object, which has n cells at least
abbrev pub HasCells : Program → State → Path → ℕ → Object → Type 0
HasCells prog s p n (Shared g) = n ≤ global_cells (slice_get prog.globals g)
HasCells prog s p n (Local owner a) = OwnsCells prog s p n owner a

abbrev pub HasCell : Program → State → Path → Cell → Type 0
HasCell prog s p c = HasCells prog s p (suc c.index) c.object

-- the frame of the function that a frame at p runs
pub record HasHome (s : State) (p : Path) (f : Frame) : Type 0 where
  pub above : Under f.home p
  pub frame : Frame
  pub lives : s.frames f.home ≡ Some frame
  pub owns : frame.home ≡ f.home
  pub function : frame.function ≡ f.function

pub record KnowsObjects (prog : Program) (s : State) (p : Path) (f : Frame) : Type 0 where
  pub home : HasHome s p f
  -- a parameter holds an object of as many cells as it declares
  pub given : (k : ℕ) (c : Cell) → k < parameters_of prog f.function → cell_of (f.registers k) ≡ Some c →
      HasCells prog s p (cells_of prog f.function (object.Parameter (record { 0 = k }))) c.object
  -- the steps of its block have pointed to cells that are there
  pub elements : (j : ℕ) (d : RegisterId) (name : ObjectName) (index : Operand) (c : Cell) → j < f.index →
      item_at prog f.function f.block j ≡ Some (Does (instruction.ElementPointer d name index)) →
      cell_of (f.registers d.0) ≡ Some c → HasCell prog s p c
  pub awaits : (k : ℕ) (d : Option RegisterId) → f.waits ≡ OnCall k d → IsBehindCall prog f d

-- so it is with each frame, in any order of steps
abbrev pub ObjectsAreKnown : Type 0
ObjectsAreKnown =
    (prog : Program) → IsNamed prog → NamesObjects prog → (arguments : List ℤ) (memory : Memory) (workers : ℕ) →
    NeverTraps prog workers (start prog arguments memory) → (events : List Event) →
    OfAll (replay prog workers events (start prog arguments memory)).core
    (KnowsObjects prog (replay prog workers events (start prog arguments memory)).core)

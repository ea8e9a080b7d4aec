-- What holds of the living frames of a run by workers, in any order of steps: what a machine would else have to test at
-- each step.
use Rattle.std.specs.Prelude.{◌≡◌, ℕ, ◌<◌, ◌≤◌, [], length, Option, Some, true, is_some, slice_get, ℤ}
use Rattle.syntax.specs.declared.operator.Mode.{Mode}
use Rattle.syntax.specs.declared.operator.Mode.TheVariants.{Reads, Writes, Adds}
use Rattle.semantics.specs.Paths.{Path}
use Rattle.semantics.specs.Cells.{Cell, Memory}
use Rattle.semantics.specs.Frames.{Frame, Item, Does, item_at, phis_at}
use Rattle.semantics.specs.Effect.{Effect, Plain, Return, action_of}
use Rattle.semantics.specs.State.{State}
use Rattle.semantics.specs.Events.{Machine}
use Rattle.program.specs.declared.function.Block.{Block}
use Rattle.program.specs.declared.function.Function.{Function}
use Rattle.program.specs.declared.function.Program.{Program}
use Rattle.program.specs.declared.instruction.Instruction.{Instruction}
use Rattle.program.specs.declared.instruction.Phi.{Phi}
use Rattle.laws_conditions.specs.rules.Moves.{dest_of}
use Rattle.laws_phases.specs.defined.Leads.{IsBlock}
use Rattle.laws_phases.specs.zones.Uses.{Uses}
use Rattle.laws_schedule.specs.kinds.Holding.{HasKindedRegisters}
use Rattle.laws_schedule.specs.safe.Kept.{IsWithin}
use Rattle.laws_schedule.specs.safe.Objects.{HasCell, KnowsObjects}
use Rattle.laws_schedule.specs.safe.Steps.{IsSteady}
use Rattle.laws_schedule.specs.safe.Reads.{ItemReads, HoldsKind}

-- each register that a step or a phi of the function sets is one of the function's, and a block has no more phis than
-- the function has registers
pub record BoundsRegisters (prog : Program) (f : ℕ) (function : Function) : Type 0 where
  pub steps : (b i d : ℕ) (what : Instruction) → item_at prog f b i ≡ Some (Does what) → dest_of what ≡ Some d →
      d < length function.registers
  pub phis : (b k : ℕ) (phi : Phi) → slice_get (phis_at prog f b) k ≡ Some phi →
      phi.register.0 < length function.registers
  pub moves : (b : ℕ) → length (phis_at prog f b) ≤ length function.registers

-- the function and the block are there, and so is what stands at the frame's place
pub record HasPlace (prog : Program) (f : Frame) : Type 0 where
  pub function : Function
  pub block : Block
  pub is : IsBlock prog f.function f.block function block
  pub item : Item
  pub stands : item_at prog f.function f.block f.index ≡ Some item
  pub bounds : BoundsRegisters prog f.function function

-- a cell that is read or added to holds a number
abbrev pub IsHeldFor : Mode → Memory → Cell → Type 0
IsHeldFor Reads m c = is_some (m c) ≡ true
IsHeldFor Writes m c = Unit {0}
IsHeldFor Adds m c = is_some (m c) ≡ true

-- what a worker's frame does next, it can do
pub record CanStep (prog : Program) (s : State) (p : Path) (f : Frame) (place : HasPlace prog f) : Type 0 where
  -- it may go on, does not trap, and all that it reads is there; a region is its own, and where it ends no child is
  -- left
  pub steady : IsSteady prog s p f
  -- the registers that it reads hold values of their kinds
  pub reads : (r : ℕ) → ItemReads prog f place.item r → HoldsKind place.function f r
  -- the cells that it reads, writes or adds to are there, and those that it reads or adds to hold numbers
  pub cells : (e : Effect) (mode : Mode) (c : Cell) → action_of prog p f s.memory ≡ Plain e → Uses e mode c →
      HasCell prog s p c × IsHeldFor mode s.memory c
  -- the first frame returns a number
  pub gives : p ≡ [] → (result : Option ℤ) → action_of prog p f s.memory ≡ Return result → is_some result ≡ true

-- a living frame
pub record IsSafe (prog : Program) (budget : ℕ) (m : Machine) (p : Path) (f : Frame) : Type 0 where
  pub place : HasPlace prog f
  -- its registers hold values of their kinds
  pub kinds : HasKindedRegisters prog f
  -- the objects that it was given, and those that it points to, are there
  pub objects : KnowsObjects prog m.core p f
  -- its place, its children and its path are no longer than the instructions done
  pub counted : IsWithin m.core.done p f
  -- the frame of a worker can do its step, which is within the budget
  pub steps : (w : ℕ) → m.hands w ≡ Some p → CanStep prog m.core p f place × (m.core.done < budget)

-- Frames and tasks: a frame stands in a block of its function, and its role is its block's task.
use Rattle.std.specs.Prelude.{◌≡◌, ℕ, ◌≤◌, List, [], ◌∷◌, length, Option, Some}
use Rattle.semantics.specs.Paths.{Path}
use Rattle.semantics.specs.Cells.{Memory}
use Rattle.semantics.specs.Frames.{Role, Child, Body, Frame, Item, Ends, item_at}
use Rattle.semantics.specs.SerialMeaning.{Outcome}
use Rattle.laws_conditions.specs.theorem.SerialConditions.{Nothing, KeptSerially}
use Rattle.linear.specs.declared.form.RegisterId.{RegisterId}
use Rattle.program.specs.declared.identifier.BlockId.{BlockId}
use Rattle.program.specs.declared.function.Block.{Block}
use Rattle.program.specs.declared.function.Function.{Function}
use Rattle.program.specs.declared.function.Program.{Program}
use Rattle.program.specs.declared.instruction.Operand.{Operand}
use Rattle.program.specs.declared.instruction.Terminator.TheVariants as terminator
use Rattle.cfg.specs.Edges.{graph_of}
use Rattle.cfg.specs.Rules.{IsGraphRight}
use Rattle.region_match.specs.Rules.{ending_at, IsDetach}
use Rattle.region_match.specs.Tasks.{HasTask}
use Rattle.region_match.specs.Matched.{AreRegionsRight}
use Rattle.laws_phases.specs.defined.Leads.{IsBlock}
use Rattle.laws_phases.specs.defined.Names.{IsNamed}

-- a body's frame is in no child's task; a child's is in the task of the detach that made it, within its region and with
-- its continuation
abbrev pub Suits : List Block → Role → List ℕ → Type 0
Suits bodies Body [] = Unit {0}
Suits bodies Body (d ∷ ds) = ⊥
Suits bodies (Child r k) [] = ⊥
Suits bodies (Child r k) (d ∷ ds) = (region : RegisterId) × (continuation : BlockId) ×
    IsDetach (ending_at bodies d) region continuation × (region.0 ≡ r) ×
    (continuation.0 ≡ k)

pub record IsPlaced (prog : Program) (f : Frame) : Type 0 where
  pub function : Function
  pub block : Block
  pub is : IsBlock prog f.function f.block function block
  -- at a step of it, or behind all of them at its terminator
  pub within : f.index ≤ length block.steps
  pub task : List ℕ
  pub has_task : HasTask (graph_of function).blocks f.block task
  pub suits : Suits function.blocks f.role task

abbrev pub Placed : Program → Path → Frame → Memory → Type 0
Placed prog p f m = IsPlaced prog f

abbrev pub NoFinds : Path → Frame → Memory → Outcome → Type 0
NoFinds p f m o = Unit {0}

-- a `ret` stands in a function's own frame, a reattach in a child of its region and continuation
pub record RolesFit (prog : Program) (f : Frame) : Type 0 where
  pub returns : (v : Option Operand) → item_at prog f.function f.block f.index ≡ Some (Ends (terminator.Return v)) →
      f.role ≡ Body
  pub reattaches : (region : RegisterId) (continuation : BlockId) →
      item_at prog f.function f.block f.index ≡ Some (Ends (terminator.Reattach region continuation)) →
      f.role ≡ Child region.0 continuation.0

abbrev pub TasksKept : Type 0
TasksKept = (prog : Program) → IsNamed prog → KeptSerially prog Nothing (Placed prog) NoFinds

abbrev pub RolesFitTasks : Type 0
RolesFitTasks = (prog : Program) → AreRegionsRight prog → (f : Frame) → IsPlaced prog f → RolesFit prog f

-- something stands at a frame's place
abbrev pub PlacesHaveItems : Type 0
PlacesHaveItems = (prog : Program) → IsGraphRight prog → (f : Frame) → IsPlaced prog f → (x : Item) ×
    (item_at prog f.function f.block f.index ≡ Some x)

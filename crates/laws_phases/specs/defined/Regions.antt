-- The region that a frame's detach or sync names was started by the frame itself.
use Rattle.std.specs.Prelude.{◌≡◌, ℕ, List, [], ◌∷◌, Some, true, is_some, ◌⊎◌, slice_get}
use Rattle.semantics.specs.Paths.{Path}
use Rattle.semantics.specs.Cells.{Memory}
use Rattle.semantics.specs.Frames.{Region, Frame, Ends, item_at}
use Rattle.laws_conditions.specs.theorem.SerialConditions.{KeptSerially}
use Rattle.linear.specs.declared.form.RegisterId.{RegisterId}
use Rattle.program.specs.declared.identifier.BlockId.{BlockId}
use Rattle.program.specs.declared.function.Block.{Block}
use Rattle.program.specs.declared.function.Function.{Function}
use Rattle.program.specs.declared.function.Program.{Program}
use Rattle.program.specs.declared.instruction.Terminator.TheVariants as terminator
use Rattle.cfg.specs.Edges.{graph_of}
use Rattle.region_match.specs.Rules.{Starts}
use Rattle.region_match.specs.Tasks.{HasTask}
use Rattle.region_match.specs.Matched.{AreRegionsRight}
use Rattle.laws_phases.specs.defined.Leads.{IsBlock}
use Rattle.laws_phases.specs.defined.Names.{StepDefines, IsNamed}
use Rattle.laws_phases.specs.defined.Placed.{IsPlaced, Placed, NoFinds}

-- the first task is the second, or one around it
abbrev pub IsAround : List ℕ → List ℕ → Type 0
IsAround outer [] = outer ≡ []
IsAround outer (d ∷ ds) = (outer ≡ d ∷ ds) ⊎ IsAround outer ds

pub record OwnsRegions (prog : Program) (p : Path) (f : Frame) : Type 0 where
  -- a register that has a value and that a step defines is of the frame's task or of one around it
  pub around : (function : Function) (b i r : ℕ) (task its : List ℕ) →
      slice_get prog.functions f.function ≡ Some function → StepDefines function b i r →
      is_some (f.registers r) ≡ true → HasTask (graph_of function).blocks b its →
      HasTask (graph_of function).blocks f.block task → IsAround its task
  -- a region of the frame's own task was started by the frame
  pub own : (function : Function) (block : Block) (b : ℕ) (r : RegisterId) (task : List ℕ) →
      IsBlock prog f.function b function block → Starts r block.steps →
      is_some (f.registers r.0) ≡ true → HasTask (graph_of function).blocks b task →
      HasTask (graph_of function).blocks f.block task →
      f.registers r.0 ≡ Some (Region p)

abbrev pub Owns : Program → Path → Frame → Memory → Type 0
Owns prog p f m = OwnsRegions prog p f

abbrev pub RegionsAreKept : Type 0
RegionsAreKept = (prog : Program) → IsNamed prog → AreRegionsRight prog →
    KeptSerially prog (Placed prog) (Owns prog) NoFinds

-- at a detach and at a sync of such a frame, where the region's register has a value, it is the frame's own
pub record UsesOwnRegions (prog : Program) (p : Path) (f : Frame) : Type 0 where
  pub detaches : (region : RegisterId) (body continuation : BlockId) →
      item_at prog f.function f.block f.index ≡ Some (Ends (terminator.Detach region body continuation)) →
      is_some (f.registers region.0) ≡ true →
      f.registers region.0 ≡ Some (Region p)
  pub syncs : (region : RegisterId) (target : BlockId) →
      item_at prog f.function f.block f.index ≡ Some (Ends (terminator.Sync region target)) →
      is_some (f.registers region.0) ≡ true → f.registers region.0 ≡ Some (Region p)

abbrev pub RegionsAreOwn : Type 0
RegionsAreOwn = (prog : Program) → AreRegionsRight prog → (p : Path) (f : Frame) → IsPlaced prog f →
    OwnsRegions prog p f → UsesOwnRegions prog p f

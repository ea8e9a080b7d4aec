-- The regions within which a child of a frame may live, by the place of the frame; none is left where the frame ends.
use Rattle.std.specs.Prelude.{◌≡◌, ◌↔◌, ℕ, Bool, true, is_some, Some, ℤ, List, slice_get}
use Rattle.semantics.specs.Paths.{Path}
use Rattle.semantics.specs.Frames.{Frame, block_at}
use Rattle.semantics.specs.State.{root_frame}
use Rattle.laws_conditions.specs.theorem.Conditions.{ClosesRegions}
use Rattle.program.specs.declared.function.Function.{Function}
use Rattle.program.specs.declared.function.Program.{Program}
use Rattle.cfg.specs.Edges.{graph_of}
use Rattle.cfg.specs.Rules.{IsGraphRight}
use Rattle.region_match.specs.Matched.{AreRegionsRight}
use Rattle.region_match.specs.Rules.{IsOpen}
use Rattle.laws_phases.specs.defined.Names.{IsNamed}
use Rattle.laws_phases.specs.defined.Placed.{IsPlaced}

-- a path leads from behind a detach within the region to the block, in one task and with no sync of the region
pub record IsOpenAt (function : Function) (b r : ℕ) : Type 0 where
  pub detach : ℕ
  pub leads : IsOpen function.blocks (graph_of function).blocks detach b
  pub within : leads.region.0 ≡ r

-- the region is open at the frame's block
abbrev pub IsOpenIn : Program → Frame → ℕ → Type 0
IsOpenIn prog f r = (function : Function) × (slice_get prog.functions f.function ≡ Some function) ×
    IsOpenAt function f.block r

-- frames that stand in a block of their task, by a test that says just which regions are open there
pub record ClosesByPlace (prog : Program) : Type 0 where
  pub opens : Path → Frame → ℕ → Bool
  pub exact : (p : Path) (f : Frame) (r : ℕ) → (opens p f r ≡ true) ↔ IsOpenIn prog f r
  pub closes : ClosesRegions prog (λ p f. IsPlaced prog f) opens

-- the rules on names, the graph and regions give the theorem's conditions on regions
abbrev pub RegionsAreClosed : Type 0
RegionsAreClosed = (prog : Program) → IsNamed prog → IsGraphRight prog → AreRegionsRight prog → ClosesByPlace prog

-- what they ask of the first frame, where `main` is there
abbrev pub StartsInPlace : Type 0
StartsInPlace = (prog : Program) (arguments : List ℤ) → is_some (block_at prog prog.main.0 0) ≡ true →
    IsPlaced prog (root_frame prog arguments)

-- What is broken in a module.
use Rattle.std.specs.Prelude.{◌≡◌, ◌⊎◌, ℕ, List, Some, Any, slice_get}
use Rattle.program.specs.declared.function.Block.{Block}
use Rattle.program.specs.declared.function.Function.{Function}
use Rattle.program.specs.declared.function.Program.{Program}
use Rattle.cfg.specs.declared.structure.BlockEdges.{BlockEdges}
use Rattle.refusal.specs.declared.broken.Broken.{Broken}
use Rattle.cfg.specs.Edges.{graph_of}
use Rattle.region_match.specs.Mixed.{IsMixed}
use Rattle.region_match.specs.Rules.{IsEndingBroken, IsPendingBroken, IsOpenEnd, IsPlaceBroken}

abbrev pub IsBlockBroken : List Block → List BlockEdges → ℕ → Block → Broken → Type 0
IsBlockBroken bodies blocks b block broken = IsEndingBroken bodies blocks b block.ending broken ⊎
    (IsPendingBroken bodies blocks b block.pending broken ⊎ IsPlaceBroken blocks b block broken)

abbrev pub IsFunctionBroken : Function → Broken → Type 0
IsFunctionBroken function broken = IsOpenEnd function.blocks (graph_of function).blocks broken ⊎
    ((b : ℕ) × (block : Block) × (slice_get function.blocks b ≡ Some block) ×
    IsBlockBroken function.blocks (graph_of function).blocks b block broken)

-- 301 to 305 and 307
abbrev pub IsRegionBroken : Program → Broken → Type 0
IsRegionBroken program broken = Any (λ function. IsFunctionBroken function broken) program.functions

-- each block has one task, and 301 to 305 and 307 hold
pub record AreRegionsRight (program : Program) : Type 0 where
  pub unmixed : (b : Broken) → IsMixed program b → ⊥
  pub unbroken : (b : Broken) → IsRegionBroken program b → ⊥

-- what a refusal may name: 306; where no block has two tasks, the other rules
abbrev pub IsTaskBroken : Program → Broken → Type 0
IsTaskBroken program broken = IsMixed program broken ⊎ (((mixed : Broken) → IsMixed program mixed → ⊥) ×
    IsRegionBroken program broken)

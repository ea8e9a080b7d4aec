-- Which allocas of a function have values: labellings by what its blocks store, and where its children begin and end.
use Rattle.std.specs.Prelude.{◌≡◌, ℕ, true, List, ◌∷◌, Option, Some, None, Contains}
use Rattle.linear.specs.declared.form.RegisterId.{RegisterId}
use Rattle.program.specs.declared.identifier.BlockId.{BlockId}
use Rattle.program.specs.declared.function.Block.{Block}
use Rattle.program.specs.declared.instruction.Terminator.{Terminator}
use Rattle.program.specs.declared.instruction.Terminator.TheVariants.{Reattach}
use Rattle.cfg.specs.declared.structure.BlockEdges.{BlockEdges}
use Rattle.region_match.specs.Rules.{ending_at, IsDetach}
use Rattle.region_match.specs.Tasks.{HasTask}
pub use Rattle.definedness_allocas.specs.Labels.{Labels, IsHeld, IsAdded, IsLabelling}
use Rattle.definedness.specs.declared.table.Given.{Given}
use Rattle.definedness.specs.Needs.{numbers_at}

abbrev pub IsStored : List Given → ℕ → ℕ → Type 0
IsStored all alloca b = Contains (numbers_at all b) alloca

-- the block ends with a detach within the region
abbrev pub IsFork : List Block → ℕ → RegisterId → Type 0
IsFork bodies b region = (continuation : BlockId) × IsDetach (ending_at bodies b) region continuation

abbrev pub IsReattach : Option Terminator → Type 0
IsReattach terminator = (region : RegisterId) × (continuation : BlockId) ×
    (terminator ≡ Some (Reattach region continuation))

-- the block ends the child of a detach
abbrev pub IsEndOf : List Block → List BlockEdges → ℕ → ℕ → Type 0
IsEndOf bodies blocks detach b = IsReattach (ending_at bodies b) × (outer : List ℕ) × HasTask blocks b (detach ∷ outer)

abbrev pub AreSets : List Block → List BlockEdges → List Given → ℕ → Labels → Type 0
AreSets bodies blocks all alloca l = IsLabelling (IsStored all alloca) (IsFork bodies) (IsEndOf bodies blocks) blocks l

-- no labelling has the alloca for sure at the start of the block
abbrev pub IsNeverSure : List Block → List BlockEdges → List Given → ℕ → ℕ → Type 0
IsNeverSure bodies blocks all alloca b = (l : Labels) → AreSets bodies blocks all alloca l → l None b ≡ true → ⊥

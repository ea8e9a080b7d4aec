-- The rules on the graph of a module.
use Rattle.std.specs.Prelude.{◌≡◌, ◌⊎◌, ◌==◌, ℕ, if◌then◌else◌, Bool, true, List, Some, All, Any, IsSome, IsNone}
use Rattle.std.specs.Prelude.{count_by, slice_get}
use Rattle.std.specs.List.{list_any}
use Rattle.program.specs.declared.instruction.PhiEntry.{PhiEntry}
use Rattle.program.specs.declared.instruction.Phi.{Phi}
use Rattle.program.specs.declared.function.Block.{Block}
use Rattle.program.specs.declared.function.Function.{Function}
use Rattle.program.specs.declared.function.Program.{Program}
use Rattle.cfg.specs.declared.structure.Edge.{Edge}
use Rattle.cfg.specs.declared.structure.BlockEdges.{BlockEdges}
use Rattle.refusal.specs.declared.broken.Broken.{Broken}
use Rattle.cfg.specs.Edges.{graph_of}
use Rattle.cfg.specs.Paths.{edges_of, IsOnPath}

abbrev pub leads_to : ℕ → List Edge → Bool
leads_to b edges = list_any (λ e. e.to.0 == b) edges

abbrev pub IsPredecessor : List BlockEdges → ℕ → ℕ → Type 0
IsPredecessor blocks a b = leads_to b (edges_of blocks a) ≡ true

abbrev pub HasPredecessor : List BlockEdges → ℕ → Type 0
HasPredecessor blocks b = (a : ℕ) × IsPredecessor blocks a b

-- each predecessor of the block has exactly one entry, and no other block has one
abbrev pub IsMatched : List BlockEdges → ℕ → List PhiEntry → Type 0
IsMatched blocks b entries = (a : ℕ) →
    count_by (λ e. e.predecessor.0 == a) entries ≡ (if leads_to b (edges_of blocks a) then 1 else 0)

abbrev pub ArePhisMatched : List BlockEdges → ℕ → List Phi → Type 0
ArePhisMatched blocks b phis = All (λ phi. IsMatched blocks b phi.entries) phis

-- the entry block has no predecessor, and a path leads to each block
abbrev pub IsLabelRight : List BlockEdges → ℕ → Type 0
IsLabelRight blocks b = (b ≡ 0 → HasPredecessor blocks b → ⊥) × IsOnPath blocks b

abbrev pub IsBlockRight : List BlockEdges → ℕ → Block → Type 0
IsBlockRight blocks b block = ArePhisMatched blocks b block.phis × IsLabelRight blocks b × IsSome block.ending

abbrev pub IsFunctionRight : Function → Type 0
IsFunctionRight function = (b : ℕ) (block : Block) → slice_get function.blocks b ≡ Some block →
    IsBlockRight (graph_of function).blocks b block

abbrev pub IsGraphRight : Program → Type 0
IsGraphRight program = All IsFunctionRight program.functions

-- ---- how they are broken

-- 211, at a phi
abbrev pub IsUnmatched : List BlockEdges → ℕ → Phi → Broken → Type 0
IsUnmatched blocks b phi broken = (broken.number ≡ 211) × (broken.line ≡ phi.line) ×
    (IsMatched blocks b phi.entries → ⊥)

abbrev pub IsPhiBroken : List BlockEdges → ℕ → List Phi → Broken → Type 0
IsPhiBroken blocks b phis broken = Any (λ phi. IsUnmatched blocks b phi broken) phis

-- 212, at the label
abbrev pub IsLabelBroken : List BlockEdges → ℕ → ℕ → Broken → Type 0
IsLabelBroken blocks b line broken = (broken.number ≡ 212) × (broken.line ≡ line) ×
    (((b ≡ 0) × HasPredecessor blocks b) ⊎ (IsOnPath blocks b → ⊥))

-- 213, at the label
abbrev pub IsEndBroken : Block → Broken → Type 0
IsEndBroken block broken = (broken.number ≡ 213) × (broken.line ≡ block.line) × IsNone block.ending

abbrev pub IsBlockBroken : List BlockEdges → ℕ → Block → Broken → Type 0
IsBlockBroken blocks b block broken = IsPhiBroken blocks b block.phis broken ⊎
    (IsLabelBroken blocks b block.line broken ⊎ IsEndBroken block broken)

abbrev pub IsFunctionBroken : Function → Broken → Type 0
IsFunctionBroken function broken = (b : ℕ) × (block : Block) × (slice_get function.blocks b ≡ Some block) ×
    IsBlockBroken (graph_of function).blocks b block broken

abbrev pub IsGraphBroken : Program → Broken → Type 0
IsGraphBroken program broken = Any (λ function. IsFunctionBroken function broken) program.functions

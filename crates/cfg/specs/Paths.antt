-- Paths through a function.
use Rattle.std.specs.Prelude.{◌≡◌, ℕ, List, [], ◌∷◌, zero, suc, Contains}
use Rattle.cfg.specs.declared.structure.Edge.{Edge}
use Rattle.cfg.specs.declared.structure.BlockEdges.{BlockEdges}

-- the edges of the block of this number; none past the last block
abbrev pub edges_of : List BlockEdges → ℕ → List Edge
edges_of [] n = []
edges_of (b ∷ bs) zero = b.edges
edges_of (b ∷ bs) (suc n) = edges_of bs n

-- one leg of a path: the block that it leaves, and along which edge
pub record Leg : Type 0 where
  pub from : ℕ
  pub edge : Edge

-- a path from one block to another; its legs, the last first
abbrev pub IsPath : List BlockEdges → ℕ → List Leg → ℕ → Type 0
IsPath blocks from [] to = from ≡ to
IsPath blocks from (leg ∷ legs) to = Contains (edges_of blocks leg.from) leg.edge × (leg.edge.to.0 ≡ to) ×
    IsPath blocks from legs leg.from

-- a path leads from the entry to a block
abbrev pub IsOnPath : List BlockEdges → ℕ → Type 0
IsOnPath blocks to = (legs : List Leg) × IsPath blocks 0 legs to

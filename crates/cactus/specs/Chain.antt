-- Frames that are put in one on top of the other.
use Rattle.std.specs.Prelude.{◌≡◌, ◌≢◌, ⊤, ℕ, ◌+◌, List, [], ◌∷◌, ◌++◌, length, Option, Some, None}
use Rattle.std.specs.List.{All}
use Rattle.cactus.specs.declared.node.Link.{Link}
use Rattle.cactus.specs.declared.node.Node.{Node}
use Rattle.cactus.specs.Frames.{Frames, node_at, IsAdded}
use Rattle.cactus.specs.ByPath.{named, IsTree}

module _ {F : Type 0} where
  -- each stands in its slot, which was free, and has the slot of the one before it as its parent's; top is the last's
  -- slot
  abbrev pub AddsUpTo : Frames F → Frames F → ℕ → List (Link F) → List ℕ → ℕ → Type 0
  AddsUpTo old new parent [] [] top = (new ≡ old) × (top ≡ parent)
  AddsUpTo old new parent [] (slot ∷ slots) top = ⊥
  AddsUpTo old new parent (link ∷ links) [] top = ⊥
  AddsUpTo old new parent (link ∷ links) (slot ∷ slots) top =
      (mid : Frames F) × IsAdded old mid link.path (Some parent) link.frame slot × AddsUpTo mid new slot links slots top

  abbrev pub AddsChain : Frames F → Frames F → ℕ → List (Link F) → List ℕ → Type 0
  AddsChain old new parent links slots = (top : ℕ) × AddsUpTo old new parent links slots top

  -- each path is that of a child of the one before it
  abbrev pub RiseFrom : List ℕ → List (Link F) → Type 0
  RiseFrom numbers [] = ⊤
  RiseFrom numbers (link ∷ links) = ((number : ℕ) × (link.path.numbers ≡ numbers ++ number ∷ [])) ×
      RiseFrom link.path.numbers links

  -- the frame stands in a slot, at its path
  pub record StandsLinked (frames : Frames F) (link : Link F) : Type 0 where
    pub node : Node F
    pub is : named frames link.path.numbers ≡ Some node
    pub path : node.path ≡ link.path
    pub frame : node.frame ≡ link.frame

  -- the frames stand at their paths, each other path has what it had, and what stood in a slot stands there
  pub record IsChained (old new : Frames F) (links : List (Link F)) : Type 0 where
    pub tree : IsTree new
    pub made : new.made ≡ old.made + length links
    pub here : All (StandsLinked new) links
    pub elsewhere : (numbers : List ℕ) → All (λ (link : Link F). numbers ≢ link.path.numbers) links →
        named new numbers ≡ named old numbers
    pub stays : (slot : ℕ) (node : Node F) → node_at old slot ≡ Some node → node_at new slot ≡ Some node

  -- the map has the chain's frames at their paths, and everywhere else what it had
  abbrev pub GrowsChain : Frames F → Frames F → ℕ → List (Link F) → Type 0
  GrowsChain old new parent links =
      (above : Node F) → IsTree old → node_at old parent ≡ Some above → RiseFrom above.path.numbers links →
      All (λ (link : Link F). named old link.path.numbers ≡ None) links → IsChained old new links

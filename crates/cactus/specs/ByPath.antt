-- A cactus as a map from paths to frames.
use Rattle.std.specs.Prelude.{◌≡◌, ◌≢◌, ℕ, List, [], ◌∷◌, ◌++◌, Option, Some, None, cond}
use Rattle.frame.specs.semantics.Paths.{same_path}
use Rattle.cactus.specs.declared.node.Node.{Node}
use Rattle.cactus.specs.Frames.{Frames, node_at}

module _ {F : Type 0} where
  -- the first of this path; in a tree there is no other
  abbrev pub first_named : List (Option (Node F)) → List ℕ → Option (Node F)
  first_named [] numbers = None
  first_named (None ∷ nodes) numbers = first_named nodes numbers
  first_named (Some node ∷ nodes) numbers = cond (same_path node.path.numbers numbers) (Some node)
      (first_named nodes numbers)

  -- what stands at a path
  unfoldable pub named : Frames F → List ℕ → Option (Node F)
  named frames numbers = first_named frames.nodes numbers

  -- this is the path of a child of the frame in the parent's slot
  pub record IsBelow (frames : Frames F) (parent : ℕ) (numbers : List ℕ) : Type 0 where
    pub above : Node F
    pub stands : node_at frames parent ≡ Some above
    pub number : ℕ
    pub is : numbers ≡ above.path.numbers ++ number ∷ []

  -- living frames have different paths, and each but the root has a living parent
  pub record IsTree (frames : Frames F) : Type 0 where
    pub distinct : (slot other : ℕ) (node twin : Node F) → node_at frames slot ≡ Some node →
        node_at frames other ≡ Some twin →
        node.path.numbers ≡ twin.path.numbers → slot ≡ other
    pub root : (slot : ℕ) (node : Node F) → node_at frames slot ≡ Some node → node.parent ≡ None →
        node.path.numbers ≡ []
    pub below : (slot parent : ℕ) (node : Node F) → node_at frames slot ≡ Some node → node.parent ≡ Some parent →
        IsBelow frames parent node.path.numbers

  -- no living frame has the frame in this slot as its parent
  abbrev pub IsLeaf : Frames F → ℕ → Type 0
  IsLeaf frames slot = (other : ℕ) (node : Node F) → node_at frames other ≡ Some node → node.parent ≢ Some slot

  -- this path has this frame now, or none, and every other path has what it had
  pub record Binds (old new : Frames F) (numbers : List ℕ) (node : Option (Node F)) : Type 0 where
    pub tree : IsTree new
    pub here : named new numbers ≡ node
    pub elsewhere : (other : List ℕ) → other ≢ numbers → named new other ≡ named old other

  abbrev pub child_node : Frames F → Node F → ℕ → ℕ → F → Node F
  child_node frames above parent number frame =
      record {
        generation = frames.made;
        path = record { numbers = above.path.numbers ++ number ∷ [] };
        parent =
            Some parent;
        frame = frame;
      }

  -- the child that the map did not have yet is in it
  abbrev pub GrowsMap : Frames F → Frames F → ℕ → ℕ → F → Type 0
  GrowsMap old new parent number frame =
      (above : Node F) → IsTree old → node_at old parent ≡ Some above →
      named old (above.path.numbers ++ number ∷ []) ≡ None →
      Binds old new (above.path.numbers ++ number ∷ []) (Some (child_node old above parent number frame))

  -- the frame, if it has no child, is in the map no more
  abbrev pub ShrinksMap : Frames F → Frames F → ℕ → Node F → Type 0
  ShrinksMap old new slot node = IsTree old → IsLeaf old slot → Binds old new node.path.numbers None

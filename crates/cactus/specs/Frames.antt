-- What a contract sees of a cactus: the frames in their slots, which is a map from paths to frames.
use Rattle.std.specs.Prelude.{◌≡◌, ◌≢◌, ℕ, ◌+◌, List, [], ◌∷◌, ◌++◌, length, Option, Some, None, IsSome, IsSomeAnd}
use Rattle.std.specs.Prelude.{slice_index_or, if◌then◌else◌, ◌==◌}
use Rattle.std.specs.Option.{option_map}
use Rattle.frame.specs.declared.path.Path.{Path}
use Rattle.cactus.specs.declared.node.Node.{Node}

-- the node or nothing at each slot from 0 on, and the number of frames that were made
pub record Frames (F : Type 0) : Type 0 where
  pub nodes : List (Option (Node F))
  pub made : ℕ

module _ {F : Type 0} where
  -- what stands in a slot
  abbrev pub node_at : Frames F → ℕ → Option (Node F)
  node_at frames slot = slice_index_or frames.nodes slot None

  -- the frame that stands in a slot
  abbrev pub frame_at : Frames F → ℕ → Option F
  frame_at frames slot = option_map (λ (node : Node F). node.frame) (node_at frames slot)

  abbrev pub of_generation : ℕ → Option (Node F) → Option (Node F)
  of_generation generation None = None
  of_generation generation (Some node) = if node.generation == generation then Some node else None

  -- what stands in a slot since this use of it
  abbrev pub node_of_use : Frames F → ℕ → ℕ → Option (Node F)
  node_of_use frames slot generation = of_generation generation (node_at frames slot)

  -- a living frame stands in the slot
  abbrev pub Lives : Frames F → ℕ → Type 0
  Lives frames slot = IsSome (node_at frames slot)

  -- the slot has this now, and every other slot has what it had
  pub record ChangesOnly (old new : Frames F) (slot : ℕ) (node : Option (Node F)) : Type 0 where
    pub changed : node_at new slot ≡ node
    pub others : (other : ℕ) → other ≢ slot → node_at new other ≡ node_at old other

  -- a slot that was free holds a new use, of a new generation
  pub record IsAdded (old new : Frames F) (path : Path) (parent : Option ℕ) (frame : F) (slot : ℕ) : Type 0 where
    pub free : node_at old slot ≡ None
    pub made : new.made ≡ old.made + 1
    pub change : ChangesOnly old new slot (Some (record {
      generation = old.made;
      path = path;
      parent = parent;
      frame =
          frame;
    }))

  -- the child of this number of the frame in the parent's slot stands in a slot that was free
  pub record AddsChild (old new : Frames F) (parent number : ℕ) (frame : F) (slot : ℕ) : Type 0 where
    pub above : Node F
    pub stands : node_at old parent ≡ Some above
    pub path : Path
    pub numbers : path.numbers ≡ above.path.numbers ++ number ∷ []
    pub added : IsAdded old new path (Some parent) frame slot

  -- the slot is free, and as many frames were made as before
  pub record IsRemoved (old new : Frames F) (slot : ℕ) : Type 0 where
    pub made : new.made ≡ old.made
    pub change : ChangesOnly old new slot None

  -- this use of the slot has this path
  abbrev pub HasPath : Frames F → ℕ → ℕ → Path → Type 0
  HasPath frames slot generation path = IsSomeAnd (node_of_use frames slot generation) (λ node. node.path ≡ path)

  -- no frame has this path
  abbrev pub HasNoPath : Frames F → Path → Type 0
  HasNoPath frames path = (slot : ℕ) (node : Node F) → node_at frames slot ≡ Some node → node.path ≢ path

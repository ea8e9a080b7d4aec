-- What stays of the slots from a run to a later one: frames in their uses of slots.
use Rattle.std.specs.Prelude.{◌≡◌, ◌⊎◌, ℕ, ◌<◌, ◌≤◌, Some, None}
use Rattle.cactus.specs.declared.node.Node.{Node}
use Rattle.cactus.specs.Frames.{Frames, node_at}
use Rattle.schedule_workers.specs.declared.activation.Activation.{Activation}

-- a frame of this path stands in the slot, in this use of it
pub record IsSameUse (frames : Frames Activation) (slot : ℕ) (node : Node Activation) : Type 0 where
  pub there : Node Activation
  pub stands : node_at frames slot ≡ Some there
  pub generation : there.generation ≡ node.generation
  pub path : there.path ≡ node.path

-- the slot was free, its generation had not been given out, and all frames that lived live on
pub record IsNewUse (old new : Frames Activation) (slot : ℕ) (node : Node Activation) : Type 0 where
  pub free : node_at old slot ≡ None
  pub least : old.made ≤ node.generation
  pub below : node.generation < new.made
  pub others : (other : ℕ) (was : Node Activation) → node_at old other ≡ Some was → IsSameUse new other was

-- what lives lived before, or is new
pub record Follows (old new : Frames Activation) : Type 0 where
  pub made : old.made ≤ new.made
  pub uses : (slot : ℕ) (node : Node Activation) → node_at new slot ≡ Some node → IsSameUse old slot node ⊎
      IsNewUse old new slot node

-- the generations of living frames were given out
abbrev pub AreGiven : Frames Activation → Type 0
AreGiven frames = (slot : ℕ) (node : Node Activation) → node_at frames slot ≡ Some node → node.generation < frames.made

-- each frame stays in its use of a slot, and none begins or ends
pub record KeepsUses (old new : Frames Activation) : Type 0 where
  pub made : new.made ≡ old.made
  pub back : (slot : ℕ) (node : Node Activation) → node_at new slot ≡ Some node → IsSameUse old slot node
  pub on : (slot : ℕ) (node : Node Activation) → node_at old slot ≡ Some node → IsSameUse new slot node

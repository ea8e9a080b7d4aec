-- The lowest frame of a task, by slots.
use Rattle.std.specs.Prelude.{◌≡◌, ℕ, Some}
use Rattle.cactus.specs.declared.node.Node.{Node}
use Rattle.cactus.specs.Frames.{Frames, node_at}
use Rattle.schedule_workers.specs.declared.activation.Activation.{Activation}
use Rattle.schedule_workers.specs.Tasks.{IsLowest}

-- what is reached from a slot's frame by its callers
pub data IsLowestBelow (frames : Frames Activation) : ℕ → ℕ → Type 0 where
  lowest : (slot : ℕ) (node : Node Activation) → node_at frames slot ≡ Some node → IsLowest node →
      IsLowestBelow frames slot slot
  under : (slot caller low : ℕ) (node : Node Activation) → node_at frames slot ≡ Some node → ¬ IsLowest node →
      node.parent ≡ Some caller →
      IsLowestBelow frames caller low → IsLowestBelow frames slot low

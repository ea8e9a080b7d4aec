-- The parent of the child that a worker runs.
use Rattle.std.specs.Prelude.{◌≡◌, ◌≢◌, ℕ, ◌∷◌, length, Some, None, true}
use Rattle.semantics.specs.Paths.{Path as RunningPath}
use Rattle.semantics.specs.Frames as defined
use Rattle.semantics.specs.Events as running
use Rattle.frame.specs.declared.path.Path.{Path}
use Rattle.frame.specs.declared.frame.Role.TheVariants.{Body}
use Rattle.cactus.specs.declared.node.Node.{Node}
use Rattle.cactus.specs.Frames.{node_at, HasPath}
use Rattle.schedule_workers.specs.declared.activation.Activation.{Activation}
use Rattle.schedule_workers.specs.declared.run.Run.{Run}
use Rattle.schedule_workers.specs.Scheduling.{hand_of}
use Rattle.schedule_core.specs.Viewed.{place_in, status_in}

-- the top of the worker's task is a child of the frame in the slot
pub record IsParentSlot (run : Run) (worker slot : ℕ) : Type 0 where
  pub top : ℕ
  pub hand : hand_of run.hands.items worker ≡ Some top
  pub child : Node Activation
  pub stands : node_at run.cactus top ≡ Some child
  pub role : child.frame.frame.role ≢ Body
  pub parent : child.parent ≡ Some slot

-- it is no child, or has no parent
abbrev pub HasNoParentSlot : Run → ℕ → Type 0
HasNoParentSlot run worker =
    (top : ℕ) (child : Node Activation) → hand_of run.hands.items worker ≡ Some top →
    node_at run.cactus top ≡ Some child → child.frame.frame.role ≢ Body →
    child.parent ≡ None

-- in this use of the slot stands the lowest frame of a ready task, whose top detached the child that the worker runs
pub record IsReadyParent (run : Run) (m : running.Machine) (worker slot generation : ℕ) : Type 0 where
  pub path : Path
  pub named : HasPath run.cactus slot generation path
  pub ready : status_in (length run.hands.items) m path ≡ Some running.Ready
  pub number : ℕ
  pub hand : m.hands worker ≡ Some (number ∷ running.top_of m.core (place_in path))
  pub child : defined.Frame
  pub stands : m.core.frames (number ∷ running.top_of m.core (place_in path)) ≡ Some child
  pub is_child : running.is_child child.role ≡ true

-- the worker runs no child whose parent is a ready top
abbrev pub HasNoReadyParent : ℕ → running.Machine → ℕ → Type 0
HasNoReadyParent workers m worker =
    (number : ℕ) (above : RunningPath) (child : defined.Frame) → m.hands worker ≡ Some (number ∷ above) →
    m.core.frames (number ∷ above) ≡ Some child → running.is_child child.role ≡ true →
    ¬ (running.top_status workers m above ≡ Some running.Ready)

-- What names a frame as long as it lives: its slot, and a generation that is given out once.
use Rattle.std.specs.Prelude.{◌≡◌, ℕ, ◌<◌, ◌≤◌, Option, Some}
use Rattle.std.specs.Option.{option_map}
use Rattle.frame.specs.declared.path.Path.{Path}
use Rattle.cactus.specs.declared.node.Node.{Node}
use Rattle.cactus.specs.Frames.{Frames, node_of_use}
use Rattle.schedule_workers.specs.declared.activation.Activation.{Activation}

-- the path of the frame that lives in this use of the slot
abbrev pub path_of_use : Frames Activation → ℕ → ℕ → Option Path
path_of_use frames slot generation = option_map (λ (node : Node Activation). node.path)
    (node_of_use frames slot generation)

pub record KeepsSpots (old new : Frames Activation) : Type 0 where
  -- a frame that lives keeps its slot and its generation
  pub stays : (path : Path) (slot generation later after : ℕ) → path_of_use old slot generation ≡ Some path →
      path_of_use new later after ≡ Some path →
      (later ≡ slot) × (after ≡ generation)
  -- a generation that was given out never comes again
  pub once : (path : Path) (slot generation : ℕ) → generation < old.made → path_of_use new slot generation ≡ Some path →
      path_of_use old slot generation ≡ Some path
  pub made : old.made ≤ new.made

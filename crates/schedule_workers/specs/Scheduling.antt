-- What a worker runs, and what a frame counts.
use Rattle.std.specs.Prelude.{◌≡◌, ℕ, List, Option, Some, None, slice_index_or}
use Rattle.sync_join.specs.Counting.{living_in}
use Rattle.schedule_workers.specs.declared.activation.Activation.{Activation}

-- the slot of the top frame of the task that a worker runs
abbrev pub hand_of : List (Option ℕ) → ℕ → Option ℕ
hand_of hands worker = slice_index_or hands worker None

-- a worker runs the task of which the slot's frame is the top
pub record IsInHand (hands : List (Option ℕ)) (slot : ℕ) : Type 0 where
  pub worker : ℕ
  pub hand : hand_of hands worker ≡ Some slot

-- the living children that the frame counts within a region
abbrev pub counted_in : Activation → ℕ → ℕ
counted_in a region = living_in a.counts.items region

-- The ready tasks whose tops stand below the frame that a worker runs.
use Rattle.std.specs.Prelude.{◌≡◌, ◌≢◌, ◌⊎◌, ℕ, zero, suc, List, [], ◌∷◌, ◌++◌, Option, Some, None, IsSomeAnd}
use Rattle.std.specs.Prelude.{option_and_then}
use Rattle.semantics.specs.Paths.{Path as RunningPath}
use Rattle.semantics.specs.Events as running
use Rattle.frame.specs.declared.path.Path.{Path}
use Rattle.cactus.specs.declared.node.Node.{Node}
use Rattle.cactus.specs.Frames.{Frames, HasPath, frame_at, node_at}
use Rattle.schedule_workers.specs.declared.activation.Activation.{Activation}
use Rattle.schedule_workers.specs.Lowest.{IsLowestBelow}
use Rattle.schedule_workers.specs.Tasks.{IsReady}
use Rattle.schedule_core.specs.declared.ready.Ticket.{Ticket}
use Rattle.schedule_core.specs.declared.stage.Stage.{Stage}
use Rattle.schedule_core.specs.Stages.{workers_of}
use Rattle.schedule_core.specs.Viewed.{place_in, status_in}

-- ---- in slots

-- the slot's frame is the top of a ready task, whose lowest frame stands in this use of a slot
pub record IsSpotOf (frames : Frames Activation) (slot : ℕ) (spot : Ticket) : Type 0 where
  pub top : Node Activation
  pub stands : node_at frames slot ≡ Some top
  pub ready : IsReady top.frame
  pub below : IsLowestBelow frames slot spot.slot
  pub lowest : Node Activation
  pub lives : node_at frames spot.slot ≡ Some lowest
  pub generation : spot.generation ≡ lowest.generation

abbrev pub IsNotReady : Frames Activation → ℕ → Type 0
IsNotReady frames slot = ¬ IsSomeAnd (frame_at frames slot) IsReady

-- the slot of the frame that made the slot's
abbrev pub maker_of : Frames Activation → Option ℕ → Option ℕ
maker_of frames slot =
    option_and_then (λ s. option_and_then (λ (node : Node Activation). node.parent) (node_at frames s)) slot

-- the slot's task is added if it is ready
abbrev pub Notes : Frames Activation → Option ℕ → List Ticket → List Ticket → Type 0
Notes frames slot old new =
    ((s : ℕ) × (spot : Ticket) × (slot ≡ Some s) × IsSpotOf frames s spot × (new ≡ old ++ spot ∷ [])) ⊎
    (((s : ℕ) → slot ≡ Some s → IsNotReady frames s) × (new ≡ old))

-- ---- in the definitions

-- in this use of a slot stands the lowest frame of a ready task, the top of which is the frame at the path
pub record IsReadyTop (stage : Stage) (m : running.Machine) (top : RunningPath) (spot : Ticket) : Type 0 where
  pub path : Path
  pub named : HasPath stage.run.cactus spot.slot spot.generation path
  pub ready : status_in (workers_of stage) m path ≡ Some running.Ready
  pub is_top : running.top_of m.core (place_in path) ≡ top

-- of so many frames below the path, the nearest first: the ready tasks that have one of them as their top
abbrev pub AreReadyUnder : Stage → running.Machine → ℕ → RunningPath → List Ticket → Type 0
AreReadyUnder stage m zero p spots = spots ≡ []
AreReadyUnder stage m (suc n) [] spots = spots ≡ []
AreReadyUnder stage m (suc n) (k ∷ above) spots =
    ((spot : Ticket) × (rest : List Ticket) × IsReadyTop stage m above spot × (spots ≡ spot ∷ rest) ×
    AreReadyUnder stage m n above rest) ⊎
    ((running.top_status (workers_of stage) m above ≢ Some running.Ready) × AreReadyUnder stage m n above spots)

abbrev pub AreReadyFrom : Stage → running.Machine → ℕ → Option RunningPath → List Ticket → Type 0
AreReadyFrom stage m n None spots = spots ≡ []
AreReadyFrom stage m n (Some p) spots = AreReadyUnder stage m n p spots

-- of so many frames below the one that the worker runs
abbrev pub AreReadyBelow : Stage → running.Machine → ℕ → ℕ → List Ticket → Type 0
AreReadyBelow stage m worker n spots = AreReadyFrom stage m n (m.hands worker) spots

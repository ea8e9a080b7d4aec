-- What the views of a run show, in the definitions of running.
use Rattle.std.specs.Prelude.{◌≡◌, ◌≢◌, ◌⊎◌, ℕ, reverse, Option, Some, None, IfSome, IsSomeAnd}
use Rattle.std.specs.Cmp.Lexicographic.{slice_cmp}
use Rattle.std.specs.Ordering.{nat_cmp}
use Rattle.std.specs.declared.cmp.Ordering.TheVariants.{Greater}
use Rattle.semantics.specs.Paths.{Path as RunningPath}
use Rattle.semantics.specs.Frames.{Frame}
use Rattle.semantics.specs.Events as running
use Rattle.frame.specs.declared.path.Path.{Path}
use Rattle.frame.specs.declared.frame.Wait as frame_wait
use Rattle.frame.specs.declared.frame.Wait.TheVariants as wait
use Rattle.cactus.specs.declared.node.Node.{Node}
use Rattle.cactus.specs.Frames.{Frames, node_at}
use Rattle.cactus.specs.ByPath.{IsTree}
use Rattle.schedule_workers.specs.declared.activation.Activation.{Activation}
use Rattle.schedule_workers.specs.Tasks.{IsReady}
use Rattle.schedule_workers.specs.Layouts.{layout_of}
use Rattle.schedule_workers.specs.RunShown.{ShowsNode}
use Rattle.schedule_workers.specs.Lowest.{IsLowestBelow}
use Rattle.schedule_core.specs.Stages.{program_of, workers_of}
use Rattle.schedule_core.specs.declared.stage.Stage.{Stage}
use Rattle.schedule_core.specs.declared.task.Status.{Status}
use Rattle.schedule_core.specs.declared.task.Status.TheVariants.{Running, Ready, Stalled}
use Rattle.schedule_core.specs.declared.task.TaskView.{TaskView}
use Rattle.schedule_core.specs.Lines.{line_by, line_or_zero}

-- ---- frames

-- the frame of the path, in the definitions' state
abbrev pub place_in : Path → RunningPath
place_in path = reverse path.numbers

-- ---- tasks

abbrev pub unheld_status : frame_wait.Wait → Status
unheld_status wait.Nothing = Ready
unheld_status (wait.Region region) = Stalled region
unheld_status (wait.Call child register) = Ready

-- how the task stands whose top this is
abbrev pub status_by : Option ℕ → frame_wait.Wait → Status
status_by None waits = unheld_status waits
status_by (Some worker) waits = Running worker

abbrev pub seen_status : Status → running.Status
seen_status (Running worker) = running.Running worker
seen_status Ready = running.Ready
seen_status (Stalled region) = running.Stalled region.0

-- how the task of this path stands, if it is a task's
abbrev pub status_in : ℕ → running.Machine → Path → Option running.Status
status_in workers m path = running.status_of workers m (place_in path)

-- the view is of these two slots
pub record Shows (stage : Stage) (low high : ℕ) (view : TaskView) : Type 0 where
  pub below : Node Activation
  pub stands_below : node_at stage.run.cactus low ≡ Some below
  pub path : view.path.now ≡ below.path
  pub above : Node Activation
  pub stands_above : node_at stage.run.cactus high ≡ Some above
  pub top : view.top.now ≡ above.frame.frame
  pub top_path : view.top_path.now ≡ above.path
  pub status : view.status ≡ status_by above.frame.runner above.frame.frame.waits
  pub line : view.line ≡ line_or_zero (line_by (program_of stage) above.frame.frame above.frame.stalled_in view.status)

-- the view's top frame shows the one that stands at the top's path
pub record ShowsTop (stage : Stage) (m : running.Machine) (view : TaskView) : Type 0 where
  pub frame : Frame
  pub stands : m.core.frames (place_in view.top_path.now) ≡ Some frame
  pub shown : ShowsNode (layout_of (program_of stage) stage.places stage.run.cactus m.core) stage.places
      (place_in view.top_path.now) frame view.top.now

-- the view is of the task of this path, where the stage stands as this machine
pub record IsTask (stage : Stage) (m : running.Machine) (path : Path) (view : TaskView) : Type 0 where
  pub named : view.path.now ≡ path
  pub status : status_in (workers_of stage) m path ≡ Some (seen_status view.status)
  pub top_path : running.top_of m.core (place_in path) ≡ place_in view.top_path.now
  pub top : ShowsTop stage m view

-- the view is of a task, whose top is in the worker's hand
pub record IsRunBy (stage : Stage) (m : running.Machine) (worker : ℕ) (view : TaskView) : Type 0 where
  pub task : IsTask stage m view.path.now view
  pub status : view.status ≡ Running worker
  pub hand : m.hands worker ≡ Some (place_in view.top_path.now)

-- ---- the first task that may be stolen

-- by numbers from the root on, a beginning first
abbrev pub IsAtMost : Path → Path → Type 0
IsAtMost p q = slice_cmp nat_cmp p.numbers q.numbers ≢ Greater

-- the slot's frame stands on the task of this path
pub record IsNamedBelow (frames : Frames Activation) (slot : ℕ) (path : Path) : Type 0 where
  pub low : ℕ
  pub below : IsLowestBelow frames slot low
  pub lowest : Node Activation
  pub stands : node_at frames low ≡ Some lowest
  pub named : lowest.path ≡ path

-- the slot's frame is the top of the ready task of this path
pub record IsReadyAt (frames : Frames Activation) (slot : ℕ) (path : Path) : Type 0 where
  pub top : Node Activation
  pub stands : node_at frames slot ≡ Some top
  pub ready : IsReady top.frame
  pub task : IsNamedBelow frames slot path

-- the lesser of a path and another, if there is another
pub record IsLesser (first : Option Path) (path least : Path) : Type 0 where
  pub among : (least ≡ path) ⊎ (first ≡ Some least)
  pub at_most : IsAtMost least path
  pub at_most_first : (p : Path) → first ≡ Some p → IsAtMost least p

-- the next is a path that stood first, or that of the slot's top, and at most as great as both
pub record Advances (frames : Frames Activation) (slot : ℕ) (first next : Option Path) : Type 0 where
  pub among : IfSome next (λ path. (first ≡ Some path) ⊎ IsReadyAt frames slot path)
  pub at_most : (path : Path) → first ≡ Some path → IsSomeAnd next (λ least. IsAtMost least path)
  pub covers : IsTree frames → (path : Path) → IsReadyAt frames slot path →
      IsSomeAnd next (λ least. IsAtMost least path)

-- the path is a ready task's, and no other ready task's is less
pub record IsFirstReady (workers : ℕ) (m : running.Machine) (path : Path) : Type 0 where
  pub ready : status_in workers m path ≡ Some running.Ready
  pub least : (other : Path) → status_in workers m other ≡ Some running.Ready → IsAtMost path other

-- no task is ready
abbrev pub IsNoneReady : ℕ → running.Machine → Type 0
IsNoneReady workers m = (path : Path) → status_in workers m path ≢ Some running.Ready

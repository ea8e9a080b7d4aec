-- For the functions of this crate and their loops alone: the labelling of blocks by their innermost detach.
use Rattle.std.specs.Prelude.{◌≡◌, ◌≢◌, ◌⊎◌, ℕ, ◌+◌, ◌<◌, Bool, true, false, not, List, length, All, Any, Contains}
use Rattle.std.specs.Prelude.{count_by}
use Rattle.cfg.specs.declared.structure.Way.{Way}
use Rattle.cfg.specs.declared.structure.Way.TheVariants.{Detached}
use Rattle.cfg.specs.declared.structure.Edge.{Edge}
use Rattle.cfg.specs.declared.structure.BlockEdges.{BlockEdges}
use Rattle.cfg.specs.Paths.{Leg, IsPath, edges_of}
use Rattle.region_match.specs.declared.task.Task.{Task}
use Rattle.region_match.specs.declared.task.Task.TheVariants.{Unreached, Body, Child}
use Rattle.region_match.specs.Tasks.{task_at, task_on, innermost}

-- the label behind an edge that leaves a block of this label
abbrev pub next_task : Way → ℕ → Task → Task
next_task Detached from task = Child (record { 0 = from })
next_task other from task = task

abbrev pub is_seen : Task → Bool
is_seen Unreached = false
is_seen Body = true
is_seen (Child detach) = true

-- the target of each edge has a label, and those that had none before got that of the edge and are work
pub record LabelsTargets (from : ℕ) (edges : List Edge) (task : Task) (tasks : List Task) (work : List ℕ)
    (tasks' : List Task) (work' : List ℕ) : Type 0 where
  pub size : length tasks' ≡ length tasks
  pub targets : All (λ e. e.to.0 < length tasks → is_seen (task_at tasks' e.to.0) ≡ true) edges
  pub kept : (b : ℕ) → is_seen (task_at tasks b) ≡ true → task_at tasks' b ≡ task_at tasks b
  pub added : (b : ℕ) → is_seen (task_at tasks' b) ≡ true
      → (is_seen (task_at tasks b) ≡ true) ⊎ (Contains work' b × (e : Edge) × Contains edges e × (e.to.0 ≡ b) ×
      (task_at tasks' b ≡ next_task e.way from task))
  pub waiting : (b : ℕ) → Contains work b → Contains work' b
  pub new : (b : ℕ) → Contains work' b → Contains work b ⊎ (is_seen (task_at tasks' b) ≡ true)
  pub count : count_by (λ x. not (is_seen x)) tasks' + length work'
      ≡ count_by (λ x. not (is_seen x)) tasks + length work

-- each label is that of a path, the entry has that of the function's body, and edges from labels lead to labels
pub record IsLabelled (blocks : List BlockEdges) (tasks : List Task) : Type 0 where
  pub size : length tasks ≡ length blocks
  pub entry : 0 < length blocks → task_at tasks 0 ≡ Body
  pub path : (b : ℕ) → is_seen (task_at tasks b) ≡ true → (legs : List Leg) × IsPath blocks 0 legs b ×
      (innermost (task_on legs) ≡ task_at tasks b)
  pub closed : (b : ℕ) → is_seen (task_at tasks b) ≡ true →
      All (λ e. e.to.0 < length tasks → is_seen (task_at tasks e.to.0) ≡ true) (edges_of blocks b)

-- an edge from a block with a label gives its target another label than it has
abbrev pub IsClash : List Task → ℕ → Edge → Type 0
IsClash tasks from e = (is_seen (task_at tasks from) ≡ true) ×
    (task_at tasks e.to.0 ≢ next_task e.way from (task_at tasks from))

abbrev pub HasClash : List BlockEdges → List Task → ℕ → Type 0
HasClash blocks tasks b = (from : ℕ) × Any (λ e. (e.to.0 ≡ b) × IsClash tasks from e) (edges_of blocks from)

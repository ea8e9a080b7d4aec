-- Tasks: the detaches on a path that lead into detached blocks.
use Rattle.std.specs.Prelude.{◌≡◌, ◌≢◌, ℕ, ◌<◌, List, [], ◌∷◌, length, Option, Some, None, slice_index_or}
use Rattle.cfg.specs.declared.structure.Way.{Way}
use Rattle.cfg.specs.declared.structure.Way.TheVariants.{Detached}
use Rattle.cfg.specs.declared.structure.BlockEdges.{BlockEdges}
use Rattle.cfg.specs.declared.structure.FunctionGraph.{FunctionGraph}
use Rattle.cfg.specs.Paths.{Leg, IsPath}
use Rattle.region_match.specs.declared.task.Task.{Task}
use Rattle.region_match.specs.declared.tables.FunctionTasks.{FunctionTasks}
use Rattle.region_match.specs.declared.task.Task.TheVariants.{Unreached, Body, Child}

-- the task behind an edge that leaves a block: its detaches, the innermost first
abbrev pub task_along : Way → ℕ → List ℕ → List ℕ
task_along Detached from detaches = from ∷ detaches
task_along other from detaches = detaches

abbrev pub task_on : List Leg → List ℕ
task_on [] = []
task_on (leg ∷ legs) = task_along leg.edge.way leg.from (task_on legs)

-- a path from the entry gives a block this task
abbrev pub HasTask : List BlockEdges → ℕ → List ℕ → Type 0
HasTask blocks b detaches = (legs : List Leg) × IsPath blocks 0 legs b × (task_on legs ≡ detaches)

-- two paths give a block different tasks
abbrev pub HasTwoTasks : List BlockEdges → ℕ → Type 0
HasTwoTasks blocks b = (p : List Leg) × (q : List Leg) × IsPath blocks 0 p b × IsPath blocks 0 q b ×
    (task_on p ≢ task_on q)

abbrev pub innermost : List ℕ → Task
innermost [] = Body
innermost (detach ∷ detaches) = Child (record { 0 = detach })

abbrev pub task_at : List Task → ℕ → Task
task_at tasks b = slice_index_or tasks b Unreached

-- of a function's blocks; none where there is no function
abbrev pub tasks_in : Option FunctionTasks → List Task
tasks_in None = []
tasks_in (Some function) = function.tasks

-- the table has the innermost detach of each path to a block
abbrev pub IsInnermostAt : List BlockEdges → List Task → ℕ → Type 0
IsInnermostAt blocks tasks b = (legs : List Leg) → IsPath blocks 0 legs b → task_at tasks b ≡ innermost (task_on legs)

-- the table of a function's blocks: Unreached where no path leads, else the innermost detach of each path
pub record AreTasks (blocks : List BlockEdges) (tasks : List Task) : Type 0 where
  pub size : length tasks ≡ length blocks
  pub innermost : (b : ℕ) → b < length blocks → IsInnermostAt blocks tasks b
  pub reached : (b : ℕ) → task_at tasks b ≢ Unreached → (detaches : List ℕ) × HasTask blocks b detaches

abbrev pub AreAllTasks : List FunctionGraph → List FunctionTasks → Type 0
AreAllTasks [] [] = Unit {0}
AreAllTasks (g ∷ gs) (t ∷ ts) = AreTasks g.blocks t.tasks × AreAllTasks gs ts
AreAllTasks one other = ⊥

-- How many frames a call stands on one another, from its own on.
use Rattle.std.specs.Prelude.{ℕ, zero, suc, ◌+◌, ◌==◌, if◌then◌else◌, max, List, [], ◌∷◌, ◌++◌, length, Option, Some}
use Rattle.std.specs.Prelude.{None, slice_get, slice_index_or}
use Rattle.program.specs.declared.function.Block.{Block}
use Rattle.program.specs.declared.function.Function.{Function}
use Rattle.program.specs.declared.function.Program.{Program}
use Rattle.program.specs.declared.instruction.Step.{Step}
use Rattle.ranges.specs.region_match.declared.task.Task.{Task}
use Rattle.ranges.specs.region_match.declared.task.Task.TheVariants.{Child}
use Rattle.ranges.specs.region_match.declared.tables.Regions.{Regions}
use Rattle.ranges.specs.region_match.Tasks.{task_at, tasks_in}
use Rattle.program.specs.Calls.{callee_of}

-- ---- detaches

-- the detaches on the way out of a block, from its innermost one on, of which there are at most this many
abbrev pub detaches_within : List Task → ℕ → Task → ℕ
detaches_within tasks (suc n) (Child detach) = suc (detaches_within tasks n (task_at tasks detach.0))
detaches_within tasks one other = 0

-- within how many detaches a block stands. No detach is within itself, so there are no more than blocks
abbrev pub detaches_around : List Task → ℕ → ℕ
detaches_around tasks b = detaches_within tasks (length tasks) (task_at tasks b)

-- ---- calls

abbrev pub greatest : {X : Type 0} → (X → ℕ) → List X → ℕ
greatest {X} f [] = 0
greatest {X} f (x ∷ xs) = max (f x) (greatest f xs)

-- what a call of another function adds: that one's depth, by the depths of the functions before this one
abbrev pub callee_depth : List ℕ → ℕ → Option ℕ → ℕ
callee_depth before self None = 0
callee_depth before self (Some callee) = if callee == self then 0 else slice_index_or before callee 0

-- t + 1 within t detaches, and at a call of another function that one's depth more
abbrev pub block_depth : List ℕ → ℕ → List Task → ℕ → Block → ℕ
block_depth before self tasks b block =
    suc (detaches_around tasks b) + greatest (λ (s : Step). callee_depth before self (callee_of s.instruction))
    block.steps

abbrev pub self_depth : ℕ → ℕ → Option ℕ → ℕ
self_depth self depth None = 0
self_depth self depth (Some callee) = if callee == self then depth else 0

-- t + 1 + depth(f, m - 1) at a self call within t detaches
abbrev pub self_call_depth : ℕ → List Task → ℕ → ℕ → Block → ℕ
self_call_depth self tasks below b block =
    greatest (λ (s : Step). self_depth self (suc (detaches_around tasks b) + below) (callee_of s.instruction))
    block.steps

-- the greatest of all blocks, from this number on
abbrev pub greatest_block : (ℕ → Block → ℕ) → ℕ → List Block → ℕ
greatest_block f b [] = 0
greatest_block f b (block ∷ blocks) = max (f b block) (greatest_block f (suc b) blocks)

-- where no self call is made
abbrev pub flat_depth : List ℕ → ℕ → List Task → List Block → ℕ
flat_depth before self tasks blocks = greatest_block (block_depth before self tasks) 0 blocks

-- above self calls
abbrev pub self_calls_depth : ℕ → List Task → List Block → ℕ → ℕ
self_calls_depth self tasks blocks below = greatest_block (self_call_depth self tasks below) 0 blocks

-- depth(f, m): the greatest of t + 1 at a block within t detaches, t + 1 and the depth of another function that is
-- called there, and, from m = 1 on, t + 1 + depth(f, m - 1) at a self call
abbrev pub depth_from : List ℕ → ℕ → List Task → List Block → ℕ → ℕ
depth_from before self tasks blocks zero = flat_depth before self tasks blocks
depth_from before self tasks blocks (suc m) =
    max (flat_depth before self tasks blocks)
    (self_calls_depth self tasks blocks (depth_from before self tasks blocks m))

-- ---- all functions: each calls itself or those before it

abbrev pub tasks_of : Regions → ℕ → List Task
tasks_of regions f = tasks_in (slice_get regions.functions f)

abbrev pub whole_depth_of : List ℕ → ℕ → List Task → Option Function → ℕ
whole_depth_of before self tasks None = 0
whole_depth_of before self tasks (Some function) = depth_from before self tasks function.blocks function.measure.bound

-- the depths of the first functions' calls, at their greatest measures
abbrev pub first_depths : Program → Regions → ℕ → List ℕ
first_depths program regions zero = []
first_depths program regions (suc f) =
    first_depths program regions f ++ whole_depth_of (first_depths program regions f) f (tasks_of regions f)
    (slice_get program.functions f) ∷ []

-- depth(f, m) of the function of this number
abbrev pub depth : Program → Regions → ℕ → Function → ℕ → ℕ
depth program regions f function m =
    depth_from (first_depths program regions f) f (tasks_of regions f) function.blocks m

-- How the rules on zones are broken, place by place.
use Rattle.std.specs.Prelude.{◌≡◌, ◌⊎◌, ℕ, Bool, true, false, List, [], Option, Some, None, Any, slice_get}
use Rattle.linear.specs.declared.form.Fact.{Fact}
use Rattle.program.specs.declared.annotation.Zone.{Zone}
use Rattle.program.specs.declared.instruction.Ending.{Ending}
use Rattle.program.specs.declared.instruction.Step.{Step}
use Rattle.program.specs.declared.instruction.Terminator.{Terminator}
use Rattle.program.specs.declared.function.Block.{Block}
use Rattle.program.specs.declared.function.Function.{Function}
use Rattle.program.specs.declared.function.Program.{Program}
use Rattle.refusal.specs.declared.broken.Broken.{Broken}
use Rattle.ranges.specs.region_match.declared.task.Task.{Task}
use Rattle.ranges.specs.region_match.declared.task.Task.TheVariants.{Child}
use Rattle.ranges.specs.region_match.declared.tables.Regions.{Regions}
use Rattle.ranges.specs.region_match.Tasks.{task_at, tasks_in}
use Rattle.ranges.specs.region_match.Rules.{ending_at}
use Rattle.ranges.specs.declared.table.EdgeFacts.{EdgeFacts}
use Rattle.ranges.specs.Places.{facts_at_step, facts_at_end, edges_known}
use Rattle.footprints_feet.specs.footprints_zones.declared.place.Use.{Use}
use Rattle.footprints.specs.Footprints.{Place, place_of, step_use, end_use, child_foot, passes_on}

-- ---- the rules at a line

-- 601 of an access, 604 of a callee's zone and of a new child's foot: no zone covers it
abbrev pub IsUncovered : ℕ → Use → Broken → Type 0
IsUncovered line used broken = (broken.number ≡ used.number) × (broken.line ≡ line) × (used.covered ≡ false)

-- 602: it conflicts with what is pending
abbrev pub IsUnclear : ℕ → Use → Broken → Type 0
IsUnclear line used broken = (broken.number ≡ 602) × (broken.line ≡ line) × (used.clear ≡ false)

abbrev pub IsUseBroken : ℕ → Use → Broken → Type 0
IsUseBroken line used broken = IsUncovered line used broken ⊎ IsUnclear line used broken

-- 603: what is pending, or a new child's foot, is not passed on along an edge of the block
abbrev pub IsEdgeBroken : List Block → Block → Ending → EdgeFacts → Broken → Type 0
IsEdgeBroken blocks block ending e broken = (broken.number ≡ 603) × (broken.line ≡ ending.line) ×
    (passes_on blocks block.pending ending.terminator e ≡ false)

-- ---- what must cover what a block touches

abbrev pub foot_at_end : List Block → Option Terminator → List Zone
foot_at_end blocks None = []
foot_at_end blocks (Some terminator) = child_foot blocks terminator

-- the zones of the function for its own blocks, the foot of the child for a child's
abbrev pub covering_of : Function → Task → List Zone
covering_of function (Child detach) = foot_at_end function.blocks (ending_at function.blocks detach.0)
covering_of function other = function.zones

abbrev pub is_own_block : Task → Bool
is_own_block (Child detach) = false
is_own_block other = true

abbrev pub place_in : Function → Task → Block → List Fact → Place
place_in function task block facts = place_of facts (covering_of function task) (is_own_block task) block.pending

-- ---- the rules at places

abbrev pub IsStepBroken : List Function → Function → Task → Block → List Fact → Step → Broken → Type 0
IsStepBroken functions function task block facts step broken = IsUseBroken step.line
    (step_use (place_in function task block facts) functions block.steps step.line step.instruction) broken

abbrev pub AreStepsBroken : List Function → Function → Task → Block → (ℕ → List Fact) → Broken → Type 0
AreStepsBroken functions function task block facts_at broken = (i : ℕ) × (step : Step) ×
    (slice_get block.steps i ≡ Some step) × IsStepBroken functions function task block (facts_at i) step broken

abbrev pub IsEndBroken : Function → Task → Block → List Fact → List EdgeFacts → Option Ending → Broken → Type 0
IsEndBroken function task block facts edges None broken = ⊥
IsEndBroken function task block facts edges (Some ending) broken =
    IsUseBroken ending.line (end_use (place_in function task block facts) function.blocks ending.terminator) broken
    ⊎ Any (λ e. IsEdgeBroken function.blocks block ending e broken) edges

-- with these facts at the steps, at the terminator and on the edges
abbrev pub IsBlockBrokenBy : List Function → Function → Task → Block → (ℕ → List Fact) → List Fact → List EdgeFacts →
    Broken → Type 0
IsBlockBrokenBy functions function task block facts_at facts edges broken = AreStepsBroken functions function task block
    facts_at broken ⊎ IsEndBroken function task block facts edges block.ending broken

abbrev pub IsBlockBroken : List Function → Function → Task → ℕ → Block → Broken → Type 0
IsBlockBroken functions function task b block broken =
    IsBlockBrokenBy functions function task block (facts_at_step functions function b block)
    (facts_at_end functions function b block) (edges_known functions function b block block.ending) broken

abbrev pub IsFunctionBroken : List Function → Function → List Task → Broken → Type 0
IsFunctionBroken functions function tasks broken = (b : ℕ) × (block : Block) ×
    (slice_get function.blocks b ≡ Some block) × IsBlockBroken functions function (task_at tasks b) b block broken

-- 601 to 604
abbrev pub IsZoneBroken : Program → Regions → Broken → Type 0
IsZoneBroken program regions broken = (f : ℕ) × (function : Function) ×
    (slice_get program.functions f ≡ Some function) ×
    IsFunctionBroken program.functions function (tasks_in (slice_get regions.functions f)) broken

-- by this table of tasks none of these rules is broken
abbrev pub AreZonesRightBy : Program → Regions → Type 0
AreZonesRightBy program regions = (broken : Broken) → IsZoneBroken program regions broken → ⊥

-- What is known at each place: one fold over the steps of a block.
use Rattle.std.specs.Prelude.{ℕ, zero, suc, List, [], ◌∷◌, ◌++◌, length, Option, Some, None, slice_get}
use Rattle.linear.specs.declared.form.Fact.{Fact}
use Rattle.program.specs.declared.annotation.Inequality.{Inequality}
use Rattle.program.specs.declared.instruction.Ending.{Ending}
use Rattle.program.specs.declared.instruction.Step.{Step}
use Rattle.program.specs.declared.function.Block.{Block}
use Rattle.program.specs.declared.function.Function.{Function}
use Rattle.ranges.specs.declared.table.EdgeFacts.{EdgeFacts}
use Rattle.ranges.specs.Sums.{facts_of}
use Rattle.ranges_owed.specs.Inequalities.{differences_of}
use Rattle.ranges.specs.Learned.{learned}
use Rattle.ranges.specs.Edges.{edges_out, all_edge_facts}

abbrev pub stated : List Inequality → List Fact
stated qs = facts_of (differences_of [] qs)

-- at a block's start: the function's `requires` in its entry block, the block's `keeps` in any other
abbrev pub start_facts : Function → ℕ → Block → List Fact
start_facts function zero block = stated function.requirements
start_facts function (suc b) block = stated block.keeps

-- behind the `shows` lines that stand before a step
abbrev pub with_shows : List Fact → List Inequality → List Fact
with_shows known shows = known ++ stated shows

abbrev pub after_step : List Function → List Fact → Step → List Fact
after_step functions known step = with_shows known step.shows ++
    facts_of (learned functions (with_shows known step.shows) step.instruction)

-- before the `shows` lines of the step of this number; behind all steps where there are fewer
abbrev pub facts_before : List Function → List Fact → List Step → ℕ → List Fact
facts_before functions known steps zero = known
facts_before functions known [] (suc i) = known
facts_before functions known (step ∷ steps) (suc i) = facts_before functions (after_step functions known step) steps i

abbrev pub step_shows : Option Step → List Inequality
step_shows None = []
step_shows (Some step) = step.shows

abbrev pub ending_shows : Option Ending → List Inequality
ending_shows None = []
ending_shows (Some ending) = ending.shows

-- at the step of this number of a block of this number
abbrev pub facts_at_step : List Function → Function → ℕ → Block → ℕ → List Fact
facts_at_step functions function b block i = with_shows (facts_before functions (start_facts function b block)
    block.steps i) (step_shows (slice_get block.steps i))

abbrev pub facts_at_end : List Function → Function → ℕ → Block → List Fact
facts_at_end functions function b block = with_shows (facts_before functions (start_facts function b block) block.steps
    (length block.steps)) (ending_shows block.ending)

-- the facts of each edge at the end of a block, in the order of its terminator
abbrev pub edges_known : List Function → Function → ℕ → Block → Option Ending → List EdgeFacts
edges_known functions function b block None = []
edges_known functions function b block (Some ending) =
    all_edge_facts function.blocks b (facts_at_end functions function b block) (edges_out block.steps ending.terminator)

-- The law owed to the machine: the serial run from any place ends, within what is left there and within the depth of
-- the table.
use Rattle.std.specs.Prelude.{◌≡◌, ℕ, ◌≤◌, List, [], Some, All, Bool, true, ℤ, pos, ◌≤ℤ◌, slice_get}
use Rattle.semantics.specs.Paths.{Path}
use Rattle.semantics.specs.Cells.{Memory, globals_of}
use Rattle.semantics.specs.Frames.{Frame}
use Rattle.semantics.specs.State.{root_frame}
use Rattle.semantics.specs.SerialMeaning.{Outcome, meaning, IsSerialMeaning}
use Rattle.laws_conditions.specs.theorem.SerialConditions.{Nothing, KeptSerially}
use Rattle.program.specs.declared.function.Function.{Function}
use Rattle.program.specs.declared.function.Program.{Program}
use Rattle.cfg.specs.Edges.{graphs_of}
use Rattle.region_match.specs.Matched.{AreRegionsRight}
use Rattle.region_match.specs.Tasks.{AreAllTasks}
use Rattle.region_match.specs.declared.tables.Regions.{Regions}
use Rattle.laws_conditions.specs.rules.Costs.{bound_of, numbers, may_use, IsCosted}
use Rattle.laws_conditions.specs.rules.Depths.{may_reach}
use Rattle.laws_phases.specs.defined.Names.{IsNamed}
use Rattle.laws_phases.specs.facts.Known.{IsMet, KnownHold}
use Rattle.ranges.specs.Rules.{AreRangesRight}
use Rattle.laws_phases.specs.facts.Owing.{HasWidths}
use Rattle.laws_phases.specs.facts.Traps.{IsReady}
use Rattle.cost_table.specs.Cost.{whole_cost_of}
use Rattle.laws_phases.specs.costs.Depths.{level_of, depth_of}
use Rattle.cost_table.specs.Rules.{AreCostsRight}
use Rattle.laws_phases.specs.costs.Shown.{IsReadable}

-- the rules on regions, on numbers and on cost hold, and this is the table of the blocks' tasks
pub record AreRulesRight (prog : Program) (regions : Regions) : Type 0 where
  pub named : IsNamed prog
  pub readable : IsReadable prog
  pub tasks : AreRegionsRight prog
  pub table : AreAllTasks (graphs_of prog) regions.functions
  pub ranges : AreRangesRight prog
  pub costs : AreCostsRight prog

-- what is kept along the serial run, given as tests: numbers of their widths, and something at each place that finds
-- what it reads
pub record IsKeptReady (prog : Program) (base : Path → Frame → Memory → Bool) (post : Path → Frame → Memory → Outcome →
    Bool) : Type 0 where
  pub kept : KeptSerially prog Nothing (λ p f m. base p f m ≡ true) (λ p f m o. post p f m o ≡ true)
  pub widths : (p : Path) (f : Frame) (m : Memory) → base p f m ≡ true → HasWidths prog f
  pub ready : (p : Path) (f : Frame) (m : Memory) → base p f m ≡ true → IsReady prog p f m

-- the rest of the frame ends without a trap, within what is left of its block less what the steps behind it have spent,
-- and no deeper than the table has it for a block within so many detaches
pub record EndsWithin (prog : Program) (regions : Regions) (p : Path) (f : Frame) (m : Memory) : Type 0 where
  pub outcome : Outcome
  pub within : ℕ
  pub meets : meaning prog within p f m ≡ Some outcome
  pub count : pos outcome.count ≤ℤ may_use prog f
  pub depth_is : outcome.depth ≤ may_reach prog (level_of regions) (depth_of prog regions) f

-- from each place where the facts are true, and where what is left and the measure are within their bounds
abbrev pub EndsFromAnyPlace : Type 0
EndsFromAnyPlace =
    (prog : Program) (regions : Regions) (base : Path → Frame → Memory → Bool) (post : Path → Frame → Memory → Outcome →
    Bool) → AreRulesRight prog regions →
    IsKeptReady prog base post →
    (p : Path) (f : Frame) (m : Memory) → base p f m ≡ true → KnownHold prog f → IsCosted prog f →
    EndsWithin prog regions p f m

-- the serial run of the whole program ends, within the cost and the depth of `main` at its greatest measure
pub record EndsWithinBudget (prog : Program) (regions : Regions) (arguments : List ℤ) (memory : Memory) : Type 0 where
  pub outcome : Outcome
  pub serial : IsSerialMeaning prog arguments memory outcome
  pub count : outcome.count ≤ whole_cost_of (slice_get prog.functions prog.main.0)
  pub depth_is : outcome.depth ≤ depth_of prog regions prog.main.0 (bound_of prog prog.main.0)

-- where the arguments meet what `main` requires
abbrev pub RunEndsWithinBudget : Type 0
RunEndsWithinBudget =
    (prog : Program) (regions : Regions) (base : Path → Frame → Memory → Bool) (post : Path → Frame → Memory → Outcome →
    Bool) → AreRulesRight prog regions →
    IsKeptReady prog base post →
    (arguments : List ℤ) (memory : Memory) → base [] (root_frame prog arguments) (globals_of memory) ≡ true →
    ((function : Function) → slice_get prog.functions prog.main.0 ≡ Some function →
    All (IsMet (numbers (root_frame prog arguments).registers)) function.requirements) →
    EndsWithinBudget prog regions arguments memory

-- What the rules on cost and depth give of the serial run, with what other phases keep.
use Rattle.std.specs.Prelude.{◌≡◌, ℕ, suc, ◌≤◌, List, [], Bool, true, None, ℤ}
use Rattle.semantics.specs.Paths.{Path}
use Rattle.semantics.specs.Cells.{Memory, globals_of}
use Rattle.semantics.specs.Frames.{Frame}
use Rattle.semantics.specs.Effect.{Effect, Plain, action_of}
use Rattle.semantics.specs.State.{root_frame}
use Rattle.semantics.specs.SerialMeaning.{Outcome, IsSerialMeaning}
use Rattle.laws_conditions.specs.theorem.SerialConditions.{Says, Finds, Nothing, KeptSerially}
use Rattle.laws_conditions.specs.theorem.Conditions.{StaysInZone, PassesZonesOn, ClosesRegions}
use Rattle.laws_conditions.specs.theorem.Schedules.{TestedZone, tested, RunsAsSerial}
use Rattle.linear.specs.declared.form.Fact.{Fact}
use Rattle.program.specs.declared.function.Program.{Program}
use Rattle.laws_conditions.specs.rules.Costs.{bound_of, cost_below}
use Rattle.laws_conditions.specs.rules.ShownCosts.{Out, CostsShown, FactsHold}
use Rattle.laws_conditions.specs.rules.Depths.{Levels, DepthTable}

-- the serial run from main's entry: it is within what the tables say of main
pub record RunsWithinTables (prog : Program) (depth : ℕ → ℕ → ℕ) (arguments : List ℤ) (memory : Memory) : Type 0 where
  pub outcome : Outcome
  pub serial : IsSerialMeaning prog arguments memory outcome
  pub count : outcome.count ≤ cost_below prog prog.main.0 (suc (bound_of prog prog.main.0))
  pub depth_is : outcome.depth ≤ depth prog.main.0 (bound_of prog prog.main.0)

-- with the rules on cost as facts show them, and facts that are true of the registers
pub record IsShownSerially (prog : Program) (base : Says) (post : Finds) (fits : Frame → Type 0) (known : ℕ → ℕ → ℕ →
    List Fact) (outs : ℕ → ℕ → List Out)
    (level depth : ℕ → ℕ → ℕ) : Type 0 where
  pub kept : KeptSerially prog Nothing base post
  pub no_trap : (p : Path) (f : Frame) (m : Memory) (e : Effect) → base p f m → action_of prog p f m ≡ Plain e →
      e.trap ≡ None
  pub fit : (p : Path) (f : Frame) (m : Memory) → base p f m → fits f
  pub holds : FactsHold prog fits known outs
  pub costs : CostsShown prog known outs
  pub levels : Levels prog level
  pub depths : DepthTable prog level depth

-- for conditions that are given by tests
abbrev pub SerialRunWithinTables : Type 0
SerialRunWithinTables =
    (prog : Program) (base : Path → Frame → Memory → Bool) (post : Path → Frame → Memory → Outcome →
    Bool) (fits : Frame → Bool) (known : ℕ → ℕ → ℕ → List Fact)
    (outs : ℕ → ℕ → List Out) (level depth : ℕ → ℕ → ℕ) →
    IsShownSerially prog (λ p f m. base p f m ≡ true) (λ p f m o. post p f m o ≡ true) (λ f. fits f
    ≡ true) known outs level depth →
    (arguments : List ℤ) (memory : Memory) → base [] (root_frame prog arguments) (globals_of memory) ≡ true →
    RunsWithinTables prog depth arguments memory

-- The schedule theorem with the budget and the depth of the tables: on each schedule of main's call, where the
-- conditions on zones and regions hold too.
abbrev pub SchedulesWithinTables : Type 0
SchedulesWithinTables =
    (prog : Program) (inside : Path → Frame → TestedZone → Bool) (pending : Path → Frame → ℕ →
    TestedZone) (expects : Frame → TestedZone → Bool)
    (holds : Path → Frame → Bool) (opens : Path → Frame → ℕ → Bool)
    (base : Path → Frame → Memory → Bool) (post : Path → Frame → Memory → Outcome → Bool) (fits : Frame →
    Bool) (known : ℕ → ℕ → ℕ → List Fact)
    (outs : ℕ → ℕ → List Out) (level depth : ℕ → ℕ → ℕ) →
    StaysInZone TestedZone tested prog (λ p f z. inside p f z ≡ true) pending →
    PassesZonesOn TestedZone tested prog (λ p f z. inside p f z ≡ true) pending (λ f z. expects f z ≡ true) →
    ClosesRegions prog (λ p f. holds p f ≡ true) opens →
    IsShownSerially prog (λ p f m. base p f m ≡ true) (λ p f m o. post p f m o ≡ true) (λ f. fits f
    ≡ true) known outs level depth →
    (arguments : List ℤ) (memory : Memory) (zone : TestedZone) → inside [] (root_frame prog arguments) zone ≡ true →
    holds [] (root_frame prog arguments) ≡ true → base [] (root_frame prog arguments) (globals_of memory) ≡ true →
    RunsAsSerial prog arguments memory (cost_below prog prog.main.0 (suc (bound_of prog prog.main.0)))
    (depth prog.main.0 (bound_of prog prog.main.0))

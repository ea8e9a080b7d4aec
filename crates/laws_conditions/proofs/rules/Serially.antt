-- What the rules on cost and depth give of the serial run.
use Rattle.std.proofs.Common.{◌≡◌, ℕ, suc, ◌≤◌, List, [], true, refl, arith, le_trans, ℤ, pos, ◌≤ℤ◌, Bool}
use Rattle.std.proofs.lemmas.Int.{ints}
use Rattle.semantics.specs.Paths.{Path}
use Rattle.semantics.specs.Cells.{Memory, globals_of}
use Rattle.semantics.specs.Frames.{Frame}
use Rattle.semantics.specs.State.{root_frame}
use Rattle.laws_conditions.specs.theorem.SerialConditions.{Says, Finds, Nothing}
use Rattle.laws_conditions.specs.theorem.InProofs.{And, FindsBoth}
use Rattle.laws_conditions.specs.theorem.Budgets.{RunsSerially}
use Rattle.laws_conditions.proofs.theorem.SerialExists.{kept_both}
use Rattle.laws_conditions.specs.theorem.Conditions.{Zone, StaysInZone, PassesZonesOn, ClosesRegions}
use Rattle.laws_conditions.specs.theorem.Schedules.{TestedZone, tested, RunsAsSerial}
use Rattle.laws_conditions.proofs.theorem.Budgets.{serially}
use Rattle.laws_conditions.proofs.theorem.EverySchedule.{schedule_theorem}
use Rattle.linear.specs.declared.form.Fact.{Fact}
use Rattle.program.specs.declared.function.Program.{Program}
use Rattle.laws_conditions.specs.rules.Costs.{bound_of, cost_below, IsEntry, may_use}
use Rattle.laws_conditions.specs.rules.InProofs.{rank_of}
use Rattle.laws_conditions.specs.rules.Depths.{may_reach}
use Rattle.laws_conditions.specs.rules.InProofs.{IsCheckedSerially}
use Rattle.laws_conditions.specs.rules.Serially.{IsShownSerially, RunsWithinTables, SerialRunWithinTables, SchedulesWithinTables}
use Rattle.laws_conditions.proofs.rules.Costs.{Costed, NoFinds, costed_kept, costs_spend, costs_run, entry_costed, entry_budget}
use Rattle.laws_conditions.specs.rules.ShownCosts.{Out}
use Rattle.laws_conditions.proofs.rules.ShownCosts.{costs_shown}
use Rattle.laws_conditions.proofs.rules.Depths.{depths_stay, entry_reach}

module _ (prog : Program) (base : Says) (post : Finds) (fits : Frame → Type 0) (level depth : ℕ → ℕ → ℕ) (checked : IsCheckedSerially prog base post fits level depth) where
  abbrev pub Known : Says
  Known = And base (Costed prog fits checked.costs base checked.fit)

  fit_known : (p : Path) (f : Frame) (m : Memory) → Known p f m → fits f
  fit_known p f m k = checked.fit p f m k.0

  -- the conditions of the schedule theorem for the serial run
  pub runs_serially : RunsSerially prog Known (FindsBoth post (NoFinds prog fits checked.costs base checked.fit)) (rank_of prog) (may_use prog) (may_reach prog level depth)
  runs_serially = record {
    kept = kept_both prog Nothing base (Costed prog fits checked.costs base checked.fit) post (NoFinds prog fits checked.costs base checked.fit) checked.kept
        (costed_kept prog fits checked.costs (And Nothing base) (λ p f m b. checked.fit p f m b.1));
    runs = costs_run prog fits checked.costs base checked.fit (λ p f m e b at. checked.no_trap p f m e b at);
    budget = costs_spend prog fits checked.costs base checked.fit;
    depth = depths_stay prog fits checked.costs Known fit_known level depth checked.levels checked.depths;
  }

  -- the schedule theorem with the tables' budget and depth
  pub schedules_within {ℓ} : (Z : Type ℓ) (zone : Z → Zone) (inside : Path → Frame → Z → Type 0) (pending : Path → Frame → ℕ → Z) (expects : Frame → Z → Type 0) (holds : Path → Frame → Type 0) (opens : Path → Frame → ℕ → Bool) →
      StaysInZone Z zone prog inside pending → PassesZonesOn Z zone prog inside pending expects → ClosesRegions prog holds opens →
      (arguments : List ℤ) (memory : Memory) (z : Z) → inside [] (root_frame prog arguments) z → holds [] (root_frame prog arguments) → base [] (root_frame prog arguments) (globals_of memory) →
      RunsAsSerial prog arguments memory (cost_below prog prog.main.0 (suc (bound_of prog prog.main.0))) (depth prog.main.0 (bound_of prog prog.main.0))
  schedules_within Z zone inside pending expects holds opens stays passes closes arguments memory z fit hold start =
      let entry : IsEntry (root_frame prog arguments) = record { block = refl; index = refl } in
      let at_root : fits (root_frame prog arguments) = checked.fit [] (root_frame prog arguments) (globals_of memory) start in
      (schedule_theorem Z zone prog inside pending expects holds opens Known (FindsBoth post (NoFinds prog fits checked.costs base checked.fit)) (rank_of prog) (may_use prog) (may_reach prog level depth) stays passes closes runs_serially
      arguments memory (cost_below prog prog.main.0 (suc (bound_of prog prog.main.0))) (depth prog.main.0 (bound_of prog prog.main.0)) z fit hold
      (start, entry_costed prog fits checked.costs base checked.fit (root_frame prog arguments) at_root entry)
      (entry_budget prog fits checked.costs base checked.fit (root_frame prog arguments) at_root entry)
      (entry_reach prog fits checked.costs base checked.fit level depth checked.levels checked.depths (root_frame prog arguments) at_root entry)).0

  pub within_tables : (arguments : List ℤ) (memory : Memory) → base [] (root_frame prog arguments) (globals_of memory) → RunsWithinTables prog depth arguments memory
  within_tables arguments memory start =
      let root : Frame = root_frame prog arguments in
      let entry : IsEntry (root_frame prog arguments) = record { block = refl; index = refl } in
      let fit : fits (root_frame prog arguments) = checked.fit [] (root_frame prog arguments) (globals_of memory) start in
      let s = serially prog Known (FindsBoth post (NoFinds prog fits checked.costs base checked.fit)) (rank_of prog) (may_use prog) (may_reach prog level depth) runs_serially arguments memory
      (start, entry_costed prog fits checked.costs base checked.fit (root_frame prog arguments) fit entry) in
      record {
        outcome = s.outcome;
        serial = s.is;
        count = under s.outcome.count (cost_below prog prog.main.0 (suc (bound_of prog prog.main.0))) _ s.count (entry_budget prog fits checked.costs base checked.fit (root_frame prog arguments) fit entry);
        depth_is = le_trans s.depth (entry_reach prog fits checked.costs base checked.fit level depth checked.levels checked.depths (root_frame prog arguments) fit entry);
      }
    where
      under : (n k : ℕ) (z : ℤ) → pos n ≤ℤ z → z ≤ℤ pos k → n ≤ k
      under n k z h l = omega (arith, ints)

pub by_shown : (prog : Program) (base : Says) (post : Finds) (fits : Frame → Type 0) (known : ℕ → ℕ → ℕ → List Fact) (outs : ℕ → ℕ → List Out) (level depth : ℕ → ℕ → ℕ) → IsShownSerially prog base post fits known outs level depth → IsCheckedSerially prog base post fits level depth
by_shown prog base post fits known outs level depth c = record { kept = c.kept; no_trap = c.no_trap; fit = c.fit; costs = costs_shown prog fits known outs c.costs c.holds; levels = c.levels; depths = c.depths }

pub serial_run_within_tables : SerialRunWithinTables
serial_run_within_tables prog base post fits known outs level depth c arguments memory start =
    within_tables prog (λ p f m. base p f m ≡ true) (λ p f m o. post p f m o ≡ true) (λ f. fits f ≡ true) level depth
    (by_shown prog (λ p f m. base p f m ≡ true) (λ p f m o. post p f m o ≡ true) (λ f. fits f ≡ true) known outs level depth c) arguments memory start

pub schedules_within_tables : SchedulesWithinTables
schedules_within_tables prog inside pending expects holds opens base post fits known outs level depth stays passes closes c arguments memory z fit hold start =
    schedules_within prog (λ p f m. base p f m ≡ true) (λ p f m o. post p f m o ≡ true) (λ f. fits f ≡ true) level depth
    (by_shown prog (λ p f m. base p f m ≡ true) (λ p f m o. post p f m o ≡ true) (λ f. fits f ≡ true) known outs level depth c)
    TestedZone tested (λ p f y. inside p f y ≡ true) pending (λ f y. expects f y ≡ true) (λ p f. holds p f ≡ true) opens stays passes closes arguments memory z fit hold start

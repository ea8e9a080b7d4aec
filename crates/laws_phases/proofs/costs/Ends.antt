-- The serial run ends within what is left and within the depth of the table.
use Rattle.std.proofs.Common.{◌≡◌, ◌≤◌, List, [], Some, true, ℤ, subst, slice_get}
use Rattle.std.specs.List.{All}
use Rattle.semantics.specs.Paths.{Path}
use Rattle.semantics.specs.Cells.{Memory, globals_of}
use Rattle.semantics.specs.Frames.{Frame}
use Rattle.semantics.specs.State.{root_frame}
use Rattle.laws_conditions.specs.theorem.SerialConditions.{Says, Finds, Nothing, KeptSerially}
use Rattle.laws_conditions.specs.theorem.InProofs.{And, FindsBoth}
use Rattle.laws_conditions.specs.theorem.InProofs.{WithinBudget, WithinDepth}
use Rattle.laws_conditions.proofs.theorem.Budgets.{budget_kept, depth_kept, with_one_more}
use Rattle.laws_conditions.proofs.theorem.SerialExists.{all_mean, kept_both}
use Rattle.program.specs.declared.function.Function.{Function}
use Rattle.program.specs.declared.function.Program.{Program}
use Rattle.region_match.specs.declared.tables.Regions.{Regions}
use Rattle.laws_conditions.specs.rules.Costs.{numbers, may_use, IsCosted}
use Rattle.laws_conditions.specs.rules.InProofs.{rank_of}
use Rattle.laws_conditions.specs.rules.Depths.{may_reach}
use Rattle.laws_conditions.specs.rules.InProofs.{IsCheckedSerially}
use Rattle.laws_conditions.specs.rules.Serially.{RunsWithinTables}
use Rattle.laws_conditions.proofs.rules.Costs.{NoFinds}
use Rattle.laws_conditions.proofs.rules.Serially.{Known, runs_serially, within_tables, by_shown}
use Rattle.laws_phases.specs.facts.Known.{known_at_place, IsMet, KnownHold}
use Rattle.laws_phases.specs.facts.Handed.{outs_at}
use Rattle.laws_phases.specs.facts.Kept.{Knows, Ensures}
use Rattle.laws_phases.specs.facts.Owing.{HasWidths}
use Rattle.laws_phases.specs.facts.Traps.{IsReady}
use Rattle.laws_phases.proofs.facts.Handed.{facts_handed_on, facts_at_start}
use Rattle.laws_phases.proofs.facts.Kept.{facts_kept}
use Rattle.laws_phases.proofs.facts.Traps.{no_traps}
use Rattle.laws_phases.specs.costs.Depths.{level_of, depth_of}
use Rattle.laws_phases.specs.costs.Ends.{AreRulesRight, EndsWithin, EndsFromAnyPlace, EndsWithinBudget, RunEndsWithinBudget}
use Rattle.laws_phases.proofs.costs.Depths.{tabled}
use Rattle.laws_phases.proofs.costs.Levels.{levels}
use Rattle.laws_phases.proofs.costs.Shown.{shown}
use Rattle.laws_phases.proofs.costs.Spent.{whole_is}

module _ (prog : Program) (regions : Regions) (right : AreRulesRight prog regions) (base : Says) (post : Finds) (kept : KeptSerially prog Nothing base post) (widths : (p : Path) (f : Frame) (m : Memory) → base p f m → HasWidths prog f)
    (ready : (p : Path) (f : Frame) (m : Memory) → base p f m → IsReady prog p f m)
  where
    checked : IsCheckedSerially prog (And base (Knows prog)) (FindsBoth post (Ensures prog)) (λ f. KnownHold prog f) (level_of regions) (depth_of prog regions)
    checked =
        let typed = right.readable.typed in
        let stable = right.readable.stable in
        by_shown prog (And base (Knows prog)) (FindsBoth post (Ensures prog)) (λ f. KnownHold prog f) (known_at_place prog) (outs_at prog) (level_of regions) (depth_of prog regions) (record {
          kept = kept_both prog Nothing base (Knows prog) post (Ensures prog) kept (facts_kept prog right.ranges typed stable (And Nothing base) (λ p f m b. widths p f m b.1));
          no_trap = λ p f m e b at. no_traps prog right.ranges p f m e b.1 (ready p f m b.0) at;
          fit = λ p f m b. b.1;
          holds = facts_handed_on prog right.ranges typed stable;
          costs = shown prog right.costs right.readable;
          levels = levels prog regions right.named right.readable.graph right.tasks right.table;
          depths = tabled prog regions right.readable.measured.upward;
        })

    pub from_any_place : (p : Path) (f : Frame) (m : Memory) → base p f m → KnownHold prog f → IsCosted prog f → EndsWithin prog regions p f m
    from_any_place p f m here known costed =
        let level = level_of regions in
        let depth = depth_of prog regions in
        let conditions = runs_serially prog (And base (Knows prog)) (FindsBoth post (Ensures prog)) (λ g. KnownHold prog g) level depth checked in
        let good : Says = Known prog (And base (Knows prog)) (FindsBoth post (Ensures prog)) (λ g. KnownHold prog g) level depth checked in
        let found : Finds = FindsBoth (FindsBoth post (Ensures prog)) (NoFinds prog (λ g. KnownHold prog g) checked.costs (And base (Knows prog)) checked.fit) in
        let counted = with_one_more prog good found (WithinBudget (may_use prog)) conditions.kept (budget_kept prog good (may_use prog) conditions.budget) in
        let all = with_one_more prog good (FindsBoth found (WithinBudget (may_use prog))) (WithinDepth (may_reach prog level depth)) counted (depth_kept prog good (may_reach prog level depth) conditions.depth) in
        let means = all_mean prog good (FindsBoth (FindsBoth found (WithinBudget (may_use prog))) (WithinDepth (may_reach prog level depth))) (rank_of prog) all conditions.runs p f m ((here, known), costed) in
        record { outcome = means.outcome; within = means.fuel; meets = means.is; count = means.finds.0.1; depth_is = means.finds.1 }

    pub whole_run : (arguments : List ℤ) (memory : Memory) → base [] (root_frame prog arguments) (globals_of memory) →
        ((function : Function) → slice_get prog.functions prog.main.0 ≡ Some function → All (IsMet (numbers (root_frame prog arguments).registers)) function.requirements) → EndsWithinBudget prog regions arguments memory
    whole_run arguments memory start met =
        let known : KnownHold prog (root_frame prog arguments) = facts_at_start prog right.ranges arguments met in
        let run : RunsWithinTables prog (depth_of prog regions) arguments memory = within_tables prog (And base (Knows prog)) (FindsBoth post (Ensures prog)) (λ f. KnownHold prog f) (level_of regions) (depth_of prog regions) checked arguments memory (start, known) in
        record { outcome = run.outcome; serial = run.serial; count = subst (λ n. run.outcome.count ≤ n) (whole_is prog prog.main.0) run.count; depth_is = run.depth_is }

pub ends_from_any_place : EndsFromAnyPlace
ends_from_any_place prog regions base post right given p f m here known costed = from_any_place prog regions right (λ q g n. base q g n ≡ true) (λ q g n o. post q g n o ≡ true) given.kept given.widths given.ready p f m here known costed

pub run_ends_within_budget : RunEndsWithinBudget
run_ends_within_budget prog regions base post right given arguments memory start met = whole_run prog regions right (λ q g n. base q g n ≡ true) (λ q g n o. post q g n o ≡ true) given.kept given.widths given.ready arguments memory start met

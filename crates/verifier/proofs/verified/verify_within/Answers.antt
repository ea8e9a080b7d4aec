use Rattle.std.proofs.Common.{refl, inl, inr}
use Rattle.footprints.specs.ranges.Rules.{IsRangeBroken}
use Rattle.footprints.specs.Rules.{IsZoneBroken}
use Rattle.cost_table.specs.Rules.{IsCostBroken}
use Rattle.verifier.proofs.Verdicts.{refused_by_text, refused_by_types, refused_after, by_tasks, err_from, unverified_by, program_of, limits_of}
use Rattle.verifier.proofs.Whole.{whole_by}
use Rattle.verifier.proofs.verified.verify_within.Goals as goal

pub budget_of-budget-requires : goal.budget_of-budget-requires
budget_of-budget-requires c = record { table = (c.in_ok-regions.regions, c.in_ok-table.ensures.table); costs = c.in_ok-table.ensures.right }

pub depth_of-depth-requires : goal.depth_of-depth-requires
depth_of-depth-requires c = record { limits = limits_of _ _ c.in_ok-typed.typed.program _ c.in_ok-graph.ensures.same c.in_ok-module.ensures.exact c.in_ok-typed.ensures.judged }

pub invariant_of-result : goal.invariant_of-result
invariant_of-result c =
    let tasks = by_tasks c.in_ok-graph.graph.program c.in_ok-graph.graph.functions c.in_ok-regions.regions c.in_ok-graph.graph.edges c.in_ok-regions.ensures.tasks in
    record {
      is_accepted = record { text = c.args.text.now; means = program_of _ _ c.in_ok-typed.typed.program _ c.in_ok-graph.ensures.same c.in_ok-module.ensures.exact c.in_ok-typed.ensures.judged c.in_ok-graph.ensures.right c.in_ok-regions.ensures.right c.in_ok-defined.ensures.right c.in_ok-facts.ensures.right (c.in_ok-regions.regions, by_tasks c.in_ok-graph.graph.program c.in_ok-graph.graph.functions c.in_ok-regions.regions c.in_ok-graph.graph.edges c.in_ok-regions.ensures.tasks, c.in_ok-check_zones.ensures.right) c.in_ok-table.ensures.right };
      is_table = (c.in_ok-regions.regions, tasks, c.in_ok-table.ensures.table, whole_by _ c.in_ok-regions.regions tasks (limits_of _ _ c.in_ok-typed.typed.program _ c.in_ok-graph.ensures.same c.in_ok-module.ensures.exact c.in_ok-typed.ensures.judged) c.in_ok-table.ensures.right);
      is_budget = c.budget_of-budget.ensures;
      is_depth = (c.in_ok-regions.regions, tasks, c.depth_of-depth.ensures c.in_ok-regions.regions tasks c.in_ok-table.ensures.table);
    }

pub returns-clause-accepted : goal.returns-clause-accepted
returns-clause-accepted c = program_of _ _ c.in_ok-typed.typed.program _ c.in_ok-graph.ensures.same c.in_ok-module.ensures.exact c.in_ok-typed.ensures.judged c.in_ok-graph.ensures.right c.in_ok-regions.ensures.right c.in_ok-defined.ensures.right c.in_ok-facts.ensures.right (c.in_ok-regions.regions, by_tasks c.in_ok-graph.graph.program c.in_ok-graph.graph.functions c.in_ok-regions.regions c.in_ok-graph.graph.edges c.in_ok-regions.ensures.tasks, c.in_ok-check_zones.ensures.right) c.in_ok-table.ensures.right

pub returns-in_err-module-clause-refused : goal.returns-in_err-module-clause-refused
returns-in_err-module-clause-refused c = err_from _ _ _ c.from_residual.ensures.1 (refused_by_text _ _ c.in_err-module.ensures.fault)

pub returns-in_err-typed-clause-refused : goal.returns-in_err-typed-clause-refused
returns-in_err-typed-clause-refused c = err_from _ _ _ c.from_residual-in_err-typed.ensures.1
    (refused_by_types _ _ _ c.in_ok-module.ensures.exact c.in_err-typed.ensures.judged)

pub returns-in_err-graph-clause-refused : goal.returns-in_err-graph-clause-refused
returns-in_err-graph-clause-refused c = err_from _ _ _ c.from_residual-in_err-graph.ensures.1
    (refused_after _ _ c.in_ok-typed.typed.program _ _ _ refl c.in_ok-module.ensures.exact c.in_ok-typed.ensures.judged
    (λ b h. inl h) c.in_err-graph.ensures.fault)

pub returns-in_err-regions-clause-refused : goal.returns-in_err-regions-clause-refused
returns-in_err-regions-clause-refused c = err_from _ _ _ c.from_residual-in_err-regions.ensures.1
    (refused_after _ _ c.in_ok-typed.typed.program _ _ _ c.in_ok-graph.ensures.same c.in_ok-module.ensures.exact c.in_ok-typed.ensures.judged
    (λ b h. inr (rw c.in_ok-graph.ensures.same c.in_ok-graph.ensures.right, inl h)) c.in_err-regions.ensures.fault)

pub returns-in_err-defined-clause-refused : goal.returns-in_err-defined-clause-refused
returns-in_err-defined-clause-refused c = err_from _ _ _ c.from_residual-in_err-defined.ensures.1
    (refused_after _ _ c.in_ok-typed.typed.program _ _ _ c.in_ok-graph.ensures.same c.in_ok-module.ensures.exact c.in_ok-typed.ensures.judged
    (λ b h. inr (rw c.in_ok-graph.ensures.same c.in_ok-graph.ensures.right, inr (c.in_ok-regions.ensures.right, inl h))) c.in_err-defined.ensures.fault)

pub returns-in_err-facts-clause-refused : goal.returns-in_err-facts-clause-refused
returns-in_err-facts-clause-refused c = err_from _ _ _ c.from_residual-in_err-facts.ensures.1
    (unverified_by _ _ (IsRangeBroken c.in_ok-graph.graph.program) _ c.in_err-facts.ensures.fault (λ refused named. (refused_after _ _ c.in_ok-typed.typed.program _ _ _ c.in_ok-graph.ensures.same c.in_ok-module.ensures.exact c.in_ok-typed.ensures.judged
    (λ b h. inr (rw c.in_ok-graph.ensures.same c.in_ok-graph.ensures.right, inr (c.in_ok-regions.ensures.right, inr (c.in_ok-defined.ensures.right, inl h)))) named)))

pub returns-in_err-check_zones-clause-refused : goal.returns-in_err-check_zones-clause-refused
returns-in_err-check_zones-clause-refused c = err_from _ _ _ c.from_residual-in_err-check_zones.ensures.1
    (unverified_by _ _ (IsZoneBroken c.in_ok-graph.graph.program c.in_ok-regions.regions) _ c.in_err-check_zones.ensures.fault (λ refused named. (refused_after _ _ c.in_ok-typed.typed.program _ _ _ c.in_ok-graph.ensures.same c.in_ok-module.ensures.exact c.in_ok-typed.ensures.judged
    (λ b h. inr (rw c.in_ok-graph.ensures.same c.in_ok-graph.ensures.right, inr (c.in_ok-regions.ensures.right, inr (c.in_ok-defined.ensures.right, inr (c.in_ok-facts.ensures.right, inl (c.in_ok-regions.regions, by_tasks c.in_ok-graph.graph.program c.in_ok-graph.graph.functions c.in_ok-regions.regions c.in_ok-graph.graph.edges c.in_ok-regions.ensures.tasks, h)))))) named)))

pub returns-in_err-table-clause-refused : goal.returns-in_err-table-clause-refused
returns-in_err-table-clause-refused c = err_from _ _ _ c.from_residual-in_err-table.ensures.1
    (unverified_by _ _ (IsCostBroken c.in_ok-graph.graph.program) _ c.in_err-table.ensures.fault (λ refused named. (refused_after _ _ c.in_ok-typed.typed.program _ _ _ c.in_ok-graph.ensures.same c.in_ok-module.ensures.exact c.in_ok-typed.ensures.judged
    (λ b h. inr (rw c.in_ok-graph.ensures.same c.in_ok-graph.ensures.right, inr (c.in_ok-regions.ensures.right, inr (c.in_ok-defined.ensures.right, inr (c.in_ok-facts.ensures.right, inr ((c.in_ok-regions.regions, by_tasks c.in_ok-graph.graph.program c.in_ok-graph.graph.functions c.in_ok-regions.regions c.in_ok-graph.graph.edges c.in_ok-regions.ensures.tasks, c.in_ok-check_zones.ensures.right), inl h)))))) named)))

-- The budget and the depth that the verifier answers are those of the laws on cost.
use Rattle.std.proofs.Common.{◌≡◌, ℕ, ◌≤◌, inl, inr, Option, Some, None, refl, arith}
use Rattle.std.specs.Prelude.{slice_get}
use Rattle.std.proofs.lemmas.Bool.{cases_lt}
use Rattle.program.specs.declared.function.Function.{Function}
use Rattle.program.specs.declared.function.Program.{Program}
use Rattle.refusal.specs.declared.broken.Broken.{Broken}
use Rattle.laws_phases.specs.region_match.declared.tables.Regions.{Regions}
use Rattle.verifier.specs.Budgets.{budget_of, depth_in, depth_of}
use Rattle.laws_conditions.specs.rules.Costs.{bound_in, bound_of}
use Rattle.laws_phases.specs.cost_table.Cost.{whole_cost, whole_cost_of}
use Rattle.laws_phases.specs.cost_table.Depth.{first_depths, tasks_of}
use Rattle.laws_phases.specs.costs.Depths.{depth_in as depth_over, depth_of as depth_at}
use Rattle.laws_phases.specs.cost_table.Rules.{AreCostsRight}

module _ (program : Program) (costs : AreCostsRight program) where
  -- no call costs more than a million million
  cost_bounded : (f : ℕ) (function : Function) → slice_get program.functions f ≡ Some function → whole_cost function ≤ 1000000000000
  cost_bounded f function at = elim (cases_lt 1000000000000 (whole_cost function)) [
    | inl l ↦
        let broken : Broken = record { line = function.line; number = 705 } in
        let most : function.measure.bound ≤ function.measure.bound = omega arith in
        absurd (costs broken (f, function, at, inr (inr (refl, refl, function.measure.bound, most, l))))
    | inr g ↦ g
  ]

  -- nor does a run
  pub budget_bounded : budget_of program ≤ 1000000000000
  budget_bounded = from (slice_get program.functions program.main.0) refl
    where
      from : (o : Option Function) → slice_get program.functions program.main.0 ≡ o → whole_cost_of o ≤ 1000000000000
      from None at = omega arith
      from (Some main) at = cost_bounded program.main.0 main at

-- the depth that the verifier answers is that of the laws on cost
pub depth_within : (program : Program) (regions : Regions) (d : ℕ) → d ≤ depth_at program regions program.main.0 (bound_of program program.main.0) → d ≤ depth_of program regions
depth_within program regions d = from (slice_get program.functions program.main.0)
  where
    from : (o : Option Function) → d ≤ depth_over (first_depths program regions program.main.0) program.main.0 (tasks_of regions program.main.0) o (bound_in o) → d ≤ depth_in program regions o
    from None low = low
    from (Some main) low = low

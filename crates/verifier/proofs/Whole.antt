-- No entry of the table of an accepted program is cut.
use Rattle.std.proofs.Common.{◌≡◌, ℕ}
use Rattle.program.specs.declared.function.Program.{Program}
use Rattle.refusal.specs.declared.broken.Broken.{Broken}
use Rattle.region_match.specs.declared.tables.Regions.{Regions}
use Rattle.cost_table.specs.Rules.{IsCostBroken}
use Rattle.verifier.specs.Accepted.{AreTasksOf}
use Rattle.verifier.specs.Budgets.{AreWhole}
use Rattle.verifier.specs.Limits.{IsWithinLimits}
use Rattle.verifier.proofs.Costs.{costs_whole, depth_uncut}
use Rattle.verifier.proofs.Depths.{depths_whole}

pub whole_by : (program : Program) (regions : Regions) → AreTasksOf program regions → IsWithinLimits program → ((b : Broken) → IsCostBroken program b → ⊥) → AreWhole program regions
whole_by program regions tasks limits right = record {
  costs = λ f m function here l. costs_whole program f m function here right l;
  depths = λ f m function here l. depth_uncut program regions f m function here l (depths_whole program regions tasks limits f m function here l);
}

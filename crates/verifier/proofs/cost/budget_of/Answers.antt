use Rattle.std.proofs.Common.{◌≡◌, ◌∙◌, ℕ, Option, Some, sym, ap}
use Rattle.std.specs.Prelude.{slice_get}
use Rattle.std.specs.Option.{unwrap_or}
use Rattle.verifier.specs.Budgets.{whole_cost_of}
use Rattle.verifier.proofs.Costs.{cost_kept}
use Rattle.verifier.proofs.cost.budget_of.Goals as goal

pub returns-in-Some : goal.returns-in-Some
returns-in-Some c =
    let program = c.args.program.now in
    let main = c.in-Some.main.now in
    let here : slice_get program.functions program.main.0 ≡ Some main = sym c.in-Some.ensures in
    c.unwrap_or.ensures ∙ ap (λ (o : Option ℕ). unwrap_or o 0) (c.cost.ensures program c.requires.table.0 c.requires.table.1 ∙ cost_kept program program.main.0 main here c.requires.costs) ∙ ap whole_cost_of (sym here)

use Rattle.std.proofs.Common.{◌≡◌, ◌∙◌, ℕ, Option, Some, sym, ap}
use Rattle.std.specs.Prelude.{slice_get}
use Rattle.std.specs.Option.{unwrap_or}
use Rattle.verifier.specs.Budgets.{depth_in}
use Rattle.verifier.proofs.Costs.{depth_kept}
use Rattle.verifier.proofs.Depths.{depth_whole}
use Rattle.verifier.proofs.cost.depth_of.Goals as goal

pub returns-in-Some : goal.returns-in-Some
returns-in-Some c = λ regions tasks is.
    let program = c.args.program.now in
    let main = c.in-Some.main.now in
    let here : slice_get program.functions program.main.0 ≡ Some main = sym c.in-Some.ensures in
    c.unwrap_or.ensures ∙ ap (λ (o : Option ℕ). unwrap_or o 0) (c.depth.ensures program regions is ∙ depth_kept program regions program.main.0 main here ∙ ap Some (depth_whole program regions tasks c.requires.limits program.main.0 main here)) ∙ ap (depth_in program regions) (sym here)

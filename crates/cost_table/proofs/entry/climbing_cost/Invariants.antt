use Rattle.std.proofs.Common.{◌≡◌, suc}
use Rattle.program.specs.declared.annotation.Budget.{Budget}
use Rattle.cost_table.specs.Cost.{cost_below}
use Rattle.cost_table.specs.Tables.{as_u128}
use Rattle.cost_table.proofs.entry.climbing_cost.Given as goal

abbrev pub invariant-loop-step : goal.invariant-loop-step
invariant-loop-step l = (budget : Budget) → budget.self_calls ≡ l.calls → budget.instructions ≡ l.instructions → l.cost ≡ as_u128 (cost_below budget (suc l._step))

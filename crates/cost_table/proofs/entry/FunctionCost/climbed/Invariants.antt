use Rattle.std.proofs.Common.{◌≡◌}
use Rattle.cost_table.specs.Tables.{climbed}
use Rattle.cost_table.proofs.entry.FunctionCost.climbed.Given as goal

abbrev pub invariant-loop-step : goal.invariant-loop-step
invariant-loop-step l = l.depth ≡ climbed l.self l._step

use Rattle.std.proofs.Common.{◌≡◌, ◌+◌, take}
use Rattle.cost_table.specs.Cost.{instructions_of}
use Rattle.cost_table.specs.Tables.{as_u128}
use Rattle.cost_table.proofs.work.instructions_done.Given as goal

abbrev pub invariant-loop-step : goal.invariant-loop-step
invariant-loop-step l = l.done ≡ as_u128 (1 + instructions_of l.functions l.function (take l.step-index l.steps))

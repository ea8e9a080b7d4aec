use Rattle.std.proofs.Common.{◌≡◌, drop}
use Rattle.ranges.specs.Edges.{compared}
use Rattle.ranges.proofs.edge.compared.Given as goal

abbrev pub invariant-loop-step : goal.invariant-loop-step
invariant-loop-step l = compared l.register (drop l.step-index l.steps) ≡ compared l.register l.steps

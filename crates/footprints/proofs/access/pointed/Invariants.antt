use Rattle.std.proofs.Common.{◌≡◌, drop}
use Rattle.footprints.specs.Footprints.{pointed}
use Rattle.footprints.proofs.access.pointed.Given as goal

abbrev pub invariant-loop-step : goal.invariant-loop-step
invariant-loop-step l = pointed l.register (drop l.step-index l.steps) ≡ pointed l.register l.steps

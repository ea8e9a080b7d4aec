use Rattle.std.proofs.Common.{◌≡◌, drop}
use Rattle.types.specs.names.Layout as spec
use Rattle.types.proofs.names.layout.Layout.add_steps.Given as goal

abbrev pub invariant-loop-step : goal.invariant-loop-step
invariant-loop-step l = spec.with_steps l.block l.self (drop l.step-index l.steps) ≡ spec.with_steps l.block l.initial.self l.steps

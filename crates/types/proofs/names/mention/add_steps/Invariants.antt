use Rattle.std.proofs.Common.{◌≡◌, drop}
use Rattle.types.specs.names.Mention as spec
use Rattle.types.proofs.names.mention.add_steps.Given as goal

abbrev pub invariant-loop-step : goal.invariant-loop-step
invariant-loop-step l = spec.with_steps l.items l.found (drop l.step-index l.steps) ≡ spec.with_steps l.items l.initial.found l.steps

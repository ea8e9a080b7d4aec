use Rattle.std.proofs.Common.{◌≡◌, ◌++◌, take}
use Rattle.std.specs.List.{flat_map}
use Rattle.definedness.specs.RegisterActs.{step_acts}
use Rattle.definedness.proofs.registers.push_steps.Given as goal

abbrev pub invariant-loop-step : goal.invariant-loop-step
invariant-loop-step l = l.acts.items ≡ l.fn.acts.items ++ flat_map (step_acts l.allocas) (take l.step-index l.steps)

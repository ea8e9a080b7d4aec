use Rattle.std.proofs.Common.{◌≡◌, take}
use Rattle.std.specs.List.{flat_map}
use Rattle.definedness.specs.AllocaActs.{step_cells}
use Rattle.definedness.proofs.allocas.block_allocas.Given as goal

abbrev pub invariant-loop-step : goal.invariant-loop-step
invariant-loop-step l = l.acts.items ≡ flat_map (step_cells l.allocas l.steps) (take l.step-index l.steps)

use Rattle.std.proofs.Common.{◌≡◌, drop}
use Rattle.definedness.specs.AllocaActs.{element_object}
use Rattle.definedness.proofs.allocas.find_element.Given as goal

abbrev pub invariant-loop-step : goal.invariant-loop-step
invariant-loop-step l = element_object l.steps l.register ≡ element_object (drop l.step-index l.steps) l.register

use Rattle.std.proofs.Common.{◌≡◌, take}
use Rattle.program.specs.declared.instruction.Step.{Step}
use Rattle.program.specs.Calls.{callee_of}
use Rattle.cost_table.specs.Depth.{greatest, self_depth}
use Rattle.cost_table.proofs.depth.deepest_self_call.Given as goal

abbrev pub invariant-loop-step : goal.invariant-loop-step
invariant-loop-step l = l.deepest ≡ greatest (λ (s : Step). self_depth l.function l.depth (callee_of s.instruction)) (take l.step-index l.steps)

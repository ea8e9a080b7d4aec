use Rattle.std.proofs.Common.{◌≡◌, take}
use Rattle.program.specs.declared.instruction.Step.{Step}
use Rattle.program.specs.Calls.{callee_of}
use Rattle.cost_table.specs.Depth.{greatest, callee_depth}
use Rattle.cost_table.proofs.depth.deepest_callee.Given as goal

abbrev pub invariant-loop-step : goal.invariant-loop-step
invariant-loop-step l = l.deepest ≡ greatest (λ (s : Step). callee_depth l.before l.function (callee_of s.instruction)) (take l.step-index l.steps)

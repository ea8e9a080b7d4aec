use Rattle.std.proofs.Common.{◌≡◌, ◌∙◌, take, arith}
use Rattle.program.specs.declared.instruction.Step.{Step}
use Rattle.program.specs.Calls.{callee_of}
use Rattle.cost_table.specs.Depth.{greatest, self_depth}
use Rattle.cost_table.proofs.Greatest.{greatest_next, greatest_all}
use Rattle.cost_table.proofs.depth.deepest_self_call.Goals as goal

pub loop-step-preserved : goal.loop-step-preserved
loop-step-preserved c =
    let f = λ (s : Step). self_depth c.args.function c.args.depth (callee_of s.instruction) in
    let next = greatest_next f c.args.steps.now c.loop-step.step-index c.step-item.result c.loop-step-test.true c.step-item.is in
    let before : c.loop-step.deepest ≡ greatest f (take c.loop-step.step-index c.args.steps.now) = c.loop-step.invariant in
    cc

pub returns : goal.returns
returns c = c.loop-step.invariant ∙ greatest_all (λ (s : Step). self_depth c.args.function c.args.depth (callee_of s.instruction)) c.args.steps.now c.loop-step.step-index (omega arith)

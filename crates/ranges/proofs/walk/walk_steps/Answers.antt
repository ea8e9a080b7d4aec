use Rattle.std.proofs.Common.{◌≡◌, length, arith}
use Rattle.program.specs.declared.instruction.Step.{Step}
use Rattle.ranges.specs.Places.{facts_before}
use Rattle.ranges.specs.Rules.{IsStepBroken}
use Rattle.refusal.proofs.Places.{below_nothing, below_next, below_all}
use Rattle.ranges.proofs.Passed.{below_passed, step_after}
use Rattle.ranges.proofs.Walking.{walked_start, walked_next, walked_all}
use Rattle.ranges.proofs.walk.walk_steps.Goals.{then-stands_before_step+in_ok-pass_step, else-stands_before_step+in_ok-broken}
use Rattle.ranges.proofs.walk.walk_steps.Goals as goal

pub loop-step-init : goal.loop-step-init
loop-step-init c = (
  walked_start c.args.program.now.functions c.args.facts.now c.args.steps.now _ c.new-counts.ensures.items,
  below_nothing (λ i (step : Step). IsStepBroken c.args.program.now c.args.function.now (facts_before c.args.program.now.functions c.args.facts.now c.args.steps.now i) step) c.args.steps.now,
)

pub loop-step-preserved : goal.loop-step-preserved
loop-step-preserved c =
    let program = c.args.program.now in
    let steps = c.args.steps.now in
    let functions = program.functions in
    let start = c.args.facts.now in
    let i = c.loop-step.step-index in
    let step = c.step-item.result in
    let walked = c.loop-step.invariant.0 in
    let earliest = c.loop-step.invariant.1 in
    elim c.if-stands_before_step.branch [
      | then-stands_before_step+in_ok-pass_step w ↦
          let known = rw c.as_slice-functions.ensures at w.in_ok-pass_step.ensures.known in
          rw (w.facts-is, w.counts-is, w.named-is) (
            walked_next functions start steps i step c.loop-step.counts.items _ c.loop-step.facts _ c.loop-step-test.true c.step-item.is walked w.in_ok-pass_step.ensures.count known,
            below_passed (λ i (step : Step). IsStepBroken program c.args.function.now (facts_before functions start steps i) step) steps i step c.loop-step.named c.loop-step-test.true c.step-item.is
                (step_after program c.args.function.now (facts_before functions start steps i) step c.loop-step.named
                (c.stands_before_step.ensures.own w.if-stands_before_step.true) (c.stands_before_step.ensures.shows w.if-stands_before_step.true))
                earliest,
          )
      | else-stands_before_step+in_ok-broken w ↦
          rw (w.facts-is, w.counts-is, w.named-is) (
            walked_next functions start steps i step c.loop-step.counts.items _ c.loop-step.facts _ c.loop-step-test.true c.step-item.is walked w.in_ok-broken.ensures.count w.in_ok-broken.ensures.known,
            below_next (λ i (step : Step). IsStepBroken program c.args.function.now (facts_before functions start steps i) step) steps i step _ _ _ c.loop-step-test.true c.step-item.is earliest
                (rw (← walked.facts_are) w.in_ok-broken.ensures.named)
                w.lower-named.ensures,
          )
    ]

pub returns-clause-walked : goal.returns-clause-walked
returns-clause-walked c =
    let end : c.loop-step.step-index ≡ length c.args.steps.now = omega (arith, c.loop-step-test.false, c.loop-step.auto.step-index-end) in
    walked_all c.args.program.now.functions c.args.facts.now c.args.steps.now _ _ _ end c.loop-step.invariant.0

pub returns-clause-named : goal.returns-clause-named
returns-clause-named c = below_all (λ i (step : Step). IsStepBroken c.args.program.now c.args.function.now (facts_before c.args.program.now.functions c.args.facts.now c.args.steps.now i) step) c.args.steps.now _ _ c.loop-step-test.false c.loop-step.invariant.1

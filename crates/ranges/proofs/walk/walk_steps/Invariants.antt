use Rattle.program.specs.declared.instruction.Step.{Step}
use Rattle.refusal.specs.Earliest.{IsEarliest}
use Rattle.ranges.specs.Places.{facts_before}
use Rattle.ranges.specs.Rules.{IsStepBroken}
use Rattle.ranges.specs.Walks.{IsWalkedTo}
use Rattle.refusal.proofs.Places.{Below}
use Rattle.ranges.proofs.walk.walk_steps.Given as goal

abbrev pub invariant-loop-step : goal.invariant-loop-step
invariant-loop-step l =
    IsWalkedTo l.program.functions l.initial.facts l.steps l.step-index l.counts.items l.facts
    × IsEarliest (Below (λ i (step : Step). IsStepBroken l.program l.function (facts_before l.program.functions l.initial.facts l.steps i) step) l.steps l.step-index) l.named

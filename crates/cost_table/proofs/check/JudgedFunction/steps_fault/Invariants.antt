use Rattle.std.proofs.Common.{◌≡◌}
use Rattle.program.specs.declared.instruction.Step.{Step}
use Rattle.refusal.specs.Earliest.{IsEarliest}
use Rattle.refusal.proofs.Places.{Below}
use Rattle.ranges.specs.Tables.{facts_in_table}
use Rattle.cost_table.specs.Rules.{IsCallNotFalling}
use Rattle.cost_table.proofs.check.JudgedFunction.steps_fault.Given as goal

abbrev pub invariant-loop-place : goal.invariant-loop-place
invariant-loop-place l =
    IsEarliest (Below (λ i (step : Step). IsCallNotFalling l.self.function.now l.self.index step.line (facts_in_table l.table i) step.instruction) l.steps l.place) l.named
    × (l.cursor.0 ≡ l.table.facts)

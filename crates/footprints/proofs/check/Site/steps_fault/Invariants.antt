use Rattle.std.proofs.Common.{◌≡◌}
use Rattle.refusal.specs.Earliest.{IsEarliest}
use Rattle.refusal.proofs.Places.{Below}
use Rattle.ranges.specs.Tables.{facts_in_table}
use Rattle.footprints.specs.Rules.{IsStepBroken}
use Rattle.footprints.proofs.check.Site.steps_fault.Given as goal

abbrev pub invariant-loop-index : goal.invariant-loop-index
invariant-loop-index l =
    IsEarliest (Below (λ i step. IsStepBroken l.self.functions.now l.self.function.now l.self.task l.self.block.now (facts_in_table l.table i) step) l.steps l.index) l.named
    × (l.cursor.0 ≡ l.table.facts)

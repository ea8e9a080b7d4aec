use Rattle.refusal.specs.Earliest.{IsEarliest}
use Rattle.ranges.specs.region_match.Tasks.{task_at}
use Rattle.refusal.proofs.Places.{Below}
use Rattle.footprints.specs.Rules.{IsBlockBroken}
use Rattle.footprints.proofs.check.function_fault.Given as goal

abbrev pub invariant-loop-index : goal.invariant-loop-index
invariant-loop-index l = IsEarliest (Below (λ b block. IsBlockBroken l.functions l.function (task_at l.tasks b) b block) l.blocks l.index) l.named

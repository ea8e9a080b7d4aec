use Rattle.refusal.specs.Earliest.{IsEarliest}
use Rattle.region_match.specs.Matched.{IsBlockBroken}
use Rattle.refusal.proofs.Places.{Below}
use Rattle.region_match.proofs.check.function_fault.Given as goal

abbrev pub invariant-loop-index : goal.invariant-loop-index
invariant-loop-index l = IsEarliest (Below (IsBlockBroken l.bodies l.blocks) l.bodies l.index) l.named

use Rattle.refusal.specs.Earliest.{IsJudged}
use Rattle.region_match.proofs.Mixing.{AreUnmixed, AreMixed}
use Rattle.region_match.proofs.label.mixed_fault.Given as goal

abbrev pub invariant-loop-b : goal.invariant-loop-b
invariant-loop-b l = IsJudged (AreUnmixed l.marks l.b) (AreMixed l.bodies l.blocks l.b) l.named

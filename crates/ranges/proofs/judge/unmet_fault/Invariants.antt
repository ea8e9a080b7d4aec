use Rattle.std.proofs.Common.{take}
use Rattle.refusal.specs.Earliest.{IsEarliest}
use Rattle.ranges.specs.Rules.{AreUnmet}
use Rattle.ranges.proofs.judge.unmet_fault.Given as goal

abbrev pub invariant-loop-obligation : goal.invariant-loop-obligation
invariant-loop-obligation l = IsEarliest (AreUnmet l.known l.line (take l.obligation-index l.obligations)) l.named

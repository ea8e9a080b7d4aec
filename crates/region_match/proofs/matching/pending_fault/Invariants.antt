use Rattle.std.proofs.Common.{take}
use Rattle.refusal.specs.Earliest.{IsEarliest}
use Rattle.region_match.specs.ByLabel.{IsPendingBrokenBy}
use Rattle.region_match.proofs.matching.pending_fault.Given as goal

abbrev pub invariant-loop-item : goal.invariant-loop-item
invariant-loop-item l = IsEarliest (IsPendingBrokenBy l.bodies l.tasks l.task (take l.item-index l.pending)) l.named

use Rattle.std.proofs.Common.{take}
use Rattle.refusal.specs.Earliest.{IsEarliest}
use Rattle.region_match.proofs.PlaceFacts.{IsFootWrong}
use Rattle.region_match.proofs.places.foot_fault.Given as goal

abbrev pub invariant-loop-zone : goal.invariant-loop-zone
invariant-loop-zone l = IsEarliest (IsFootWrong l.is_wrong (take l.zone-index l.foot)) l.named

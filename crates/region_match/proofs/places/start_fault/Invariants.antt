use Rattle.std.proofs.Common.{take}
use Rattle.refusal.specs.Earliest.{IsEarliest}
use Rattle.region_match.proofs.PlaceFacts.{AreStartsWrong}
use Rattle.region_match.proofs.places.start_fault.Given as goal

abbrev pub invariant-loop-step : goal.invariant-loop-step
invariant-loop-step l = IsEarliest (AreStartsWrong l.is_wrong (take l.step-index l.steps)) l.named

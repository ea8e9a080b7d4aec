use Rattle.std.proofs.Common.{take}
use Rattle.refusal.specs.Earliest.{IsEarliest}
use Rattle.region_match.proofs.PlaceFacts.{ArePhisWrong}
use Rattle.region_match.proofs.places.phi_fault.Given as goal

abbrev pub invariant-loop-phi : goal.invariant-loop-phi
invariant-loop-phi l = IsEarliest (ArePhisWrong l.is_wrong (take l.phi-index l.phis)) l.named

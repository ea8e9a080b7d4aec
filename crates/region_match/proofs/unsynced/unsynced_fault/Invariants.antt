use Rattle.refusal.specs.Earliest.{IsEarliest}
use Rattle.region_match.proofs.OpenEnds.{OpenBelow}
use Rattle.region_match.proofs.unsynced.unsynced_fault.Given as goal

abbrev pub invariant-loop-detach : goal.invariant-loop-detach
invariant-loop-detach l = IsEarliest (OpenBelow l.bodies l.blocks l.detach) l.named

use Rattle.refusal.specs.Earliest.{IsEarliest}
use Rattle.region_match.proofs.OpenEnds.{OpenAt}
use Rattle.refusal.proofs.Places.{Below}
use Rattle.region_match.proofs.unsynced.open_ends.Given as goal

abbrev pub invariant-loop-to : goal.invariant-loop-to
invariant-loop-to l = IsEarliest (Below (OpenAt l.bodies l.blocks l.detach) l.bodies l.to) l.named

use Rattle.laws_phases.proofs.regions.Closed.{starts_in_place}
use Rattle.laws_phases.proofs.starts_in_place.Goals as goal

pub returns : goal.returns
returns c = starts_in_place

use Rattle.laws_phases.proofs.costs.Ends.{ends_from_any_place}
use Rattle.laws_phases.proofs.ends_from_any_place.Goals as goal

pub returns : goal.returns
returns c = ends_from_any_place

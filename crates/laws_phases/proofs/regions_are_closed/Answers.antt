use Rattle.laws_phases.proofs.regions.Closed.{regions_are_closed}
use Rattle.laws_phases.proofs.regions_are_closed.Goals as goal

pub returns : goal.returns
returns c = regions_are_closed

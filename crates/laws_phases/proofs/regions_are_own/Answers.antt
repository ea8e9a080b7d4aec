use Rattle.laws_phases.proofs.defined.Regions.{regions_are_own}
use Rattle.laws_phases.proofs.regions_are_own.Goals as goal

pub returns : goal.returns
returns c = regions_are_own

use Rattle.laws_phases.proofs.defined.Regions.{regions_are_kept}
use Rattle.laws_phases.proofs.regions_are_kept.Goals as goal

pub returns : goal.returns
returns c = regions_are_kept

use Rattle.laws_phases.proofs.costs.Depths.{tabled}
use Rattle.laws_phases.proofs.depths_tabled.Goals as goal

pub returns : goal.returns
returns c = tabled

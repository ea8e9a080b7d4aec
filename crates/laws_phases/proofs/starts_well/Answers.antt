use Rattle.laws_phases.proofs.defined.Starting.{starts_well}
use Rattle.laws_phases.proofs.starts_well.Goals as goal

pub returns : goal.returns
returns c = starts_well

use Rattle.laws_phases.proofs.defined.Kept.{values_are_kept}
use Rattle.laws_phases.proofs.values_are_kept.Goals as goal

pub returns : goal.returns
returns c = values_are_kept

use Rattle.laws_phases.proofs.facts.Traps.{no_traps}
use Rattle.laws_phases.proofs.no_traps.Goals as goal

pub returns : goal.returns
returns c = no_traps

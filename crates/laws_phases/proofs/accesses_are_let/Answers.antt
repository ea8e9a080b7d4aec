use Rattle.laws_phases.proofs.zones.Accesses.{accesses_let}
use Rattle.laws_phases.proofs.accesses_are_let.Goals as goal

pub returns : goal.returns
returns c = accesses_let

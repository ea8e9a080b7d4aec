use Rattle.laws_phases.proofs.zones.Callees.{callees_let}
use Rattle.laws_phases.proofs.callees_are_let.Goals as goal

pub returns : goal.returns
returns c = callees_let

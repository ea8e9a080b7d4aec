use Rattle.laws_phases.proofs.zones.Edges.{pending_goes_on}
use Rattle.laws_phases.proofs.pending_goes_on.Goals as goal

pub returns : goal.returns
returns c = pending_goes_on

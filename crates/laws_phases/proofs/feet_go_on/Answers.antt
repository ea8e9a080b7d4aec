use Rattle.laws_phases.proofs.zones.Edges.{feet_go_on}
use Rattle.laws_phases.proofs.feet_go_on.Goals as goal

pub returns : goal.returns
returns c = feet_go_on

use Rattle.laws_phases.proofs.zones.Stays.{zones_stay}
use Rattle.laws_phases.proofs.zones_stay.Goals as goal

pub returns : goal.returns
returns c = zones_stay

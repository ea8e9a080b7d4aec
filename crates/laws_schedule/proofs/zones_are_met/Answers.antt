use Rattle.laws_schedule.proofs.zones.Conditions.{zones_are_met}
use Rattle.laws_schedule.proofs.zones_are_met.Goals as goal

pub returns : goal.returns
returns c = zones_are_met

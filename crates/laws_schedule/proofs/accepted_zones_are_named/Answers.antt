use Rattle.laws_schedule.proofs.zones.Named.{accepted_zones_are_named}
use Rattle.laws_schedule.proofs.accepted_zones_are_named.Goals as goal

pub returns : goal.returns
returns c = accepted_zones_are_named

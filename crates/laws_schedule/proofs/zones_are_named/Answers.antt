use Rattle.laws_schedule.proofs.zones.Named.{zones_are_named}
use Rattle.laws_schedule.proofs.zones_are_named.Goals as goal

pub returns : goal.returns
returns c = zones_are_named

use Rattle.laws_schedule.proofs.zones.Starting.{zones_at_start}
use Rattle.laws_schedule.proofs.zones_at_start.Goals as goal

pub returns : goal.returns
returns c = zones_at_start

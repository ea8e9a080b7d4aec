use Rattle.laws_schedule.proofs.zones.Schedules.{schedules_agree}
use Rattle.laws_schedule.proofs.schedules_agree.Goals as goal

pub returns : goal.returns
returns c = schedules_agree

use Rattle.laws_schedule.proofs.safe.Safe.{schedules_are_safe}
use Rattle.laws_schedule.proofs.schedules_are_safe.Goals as goal

pub returns : goal.returns
returns c = schedules_are_safe

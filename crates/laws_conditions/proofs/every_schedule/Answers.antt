use Rattle.laws_conditions.proofs.theorem.EverySchedule.{every_schedule}
use Rattle.laws_conditions.proofs.every_schedule.Goals as goal

pub returns : goal.returns
returns c = every_schedule

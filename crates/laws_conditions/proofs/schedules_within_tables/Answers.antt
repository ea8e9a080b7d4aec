use Rattle.laws_conditions.proofs.rules.Serially.{schedules_within_tables}
use Rattle.laws_conditions.proofs.schedules_within_tables.Goals as goal

pub returns : goal.returns
returns c = schedules_within_tables

use Rattle.laws_phases.proofs.zones.Tables.{one_table}
use Rattle.laws_phases.proofs.tasks_have_one_table.Goals as goal

pub returns : goal.returns
returns c = one_table

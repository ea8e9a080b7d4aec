use Rattle.laws_schedule.proofs.typing.Laws.{measures_name_parameters}
use Rattle.laws_schedule.proofs.measures_name_parameters.Goals as goal

pub returns : goal.returns
returns c = measures_name_parameters

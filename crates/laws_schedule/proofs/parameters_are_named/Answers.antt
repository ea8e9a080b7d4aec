use Rattle.laws_schedule.proofs.typing.Laws.{parameters_are_named}
use Rattle.laws_schedule.proofs.parameters_are_named.Goals as goal

pub returns : goal.returns
returns c = parameters_are_named

use Rattle.laws_schedule.proofs.typing.Laws.{objects_are_named}
use Rattle.laws_schedule.proofs.objects_are_named.Goals as goal

pub returns : goal.returns
returns c = objects_are_named

use Rattle.laws_schedule.proofs.pointers.Runs.{names_are_apart}
use Rattle.laws_schedule.proofs.pointer_names_are_apart.Goals as goal

pub returns : goal.returns
returns c = names_are_apart

use Rattle.laws_schedule.proofs.pointers.Runs.{meant_names_are_apart}
use Rattle.laws_schedule.proofs.meant_names_are_apart.Goals as goal

pub returns : goal.returns
returns c = meant_names_are_apart

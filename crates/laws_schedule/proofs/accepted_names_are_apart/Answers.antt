use Rattle.laws_schedule.proofs.pointers.Runs.{accepted_names_are_apart}
use Rattle.laws_schedule.proofs.accepted_names_are_apart.Goals as goal

pub returns : goal.returns
returns c = accepted_names_are_apart

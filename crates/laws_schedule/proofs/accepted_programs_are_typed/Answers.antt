use Rattle.laws_schedule.proofs.typing.Accepted.{accepted_programs_are_typed}
use Rattle.laws_schedule.proofs.accepted_programs_are_typed.Goals as goal

pub returns : goal.returns
returns c = accepted_programs_are_typed

use Rattle.laws_schedule.proofs.Promise.{accepted_programs_keep_their_promise}
use Rattle.laws_schedule.proofs.accepted_programs_keep_their_promise.Goals as goal

pub returns : goal.returns
returns c = accepted_programs_keep_their_promise

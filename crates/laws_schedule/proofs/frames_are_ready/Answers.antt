use Rattle.laws_schedule.proofs.kinds.Ready.{frames_are_ready}
use Rattle.laws_schedule.proofs.frames_are_ready.Goals as goal

pub returns : goal.returns
returns c = frames_are_ready

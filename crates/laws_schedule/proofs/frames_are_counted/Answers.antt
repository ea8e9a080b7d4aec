use Rattle.laws_schedule.proofs.safe.Counted.{frames_are_counted}
use Rattle.laws_schedule.proofs.frames_are_counted.Goals as goal

pub returns : goal.returns
returns c = frames_are_counted

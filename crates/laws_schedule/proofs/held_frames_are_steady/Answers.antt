use Rattle.laws_schedule.proofs.safe.Held.{held_frames_are_steady}
use Rattle.laws_schedule.proofs.held_frames_are_steady.Goals as goal

pub returns : goal.returns
returns c = held_frames_are_steady

use Rattle.laws_schedule.proofs.safe.Sizes.{uses_are_sized}
use Rattle.laws_schedule.proofs.uses_are_sized.Goals as goal

pub returns : goal.returns
returns c = uses_are_sized

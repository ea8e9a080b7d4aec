use Rattle.laws_schedule.proofs.kinds.Given.{widths_are_given}
use Rattle.laws_schedule.proofs.widths_are_given.Goals as goal

pub returns : goal.returns
returns c = widths_are_given

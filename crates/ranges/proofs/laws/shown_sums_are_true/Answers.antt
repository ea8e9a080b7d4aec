use Rattle.ranges.proofs.Truth.{shown_true}
use Rattle.ranges.proofs.laws.shown_sums_are_true.Goals as goal

pub returns : goal.returns
returns c = shown_true

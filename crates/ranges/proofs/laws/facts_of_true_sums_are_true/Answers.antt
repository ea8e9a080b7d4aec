use Rattle.ranges.proofs.Truth.{facts_true}
use Rattle.ranges.proofs.laws.facts_of_true_sums_are_true.Goals as goal

pub returns : goal.returns
returns c = facts_true

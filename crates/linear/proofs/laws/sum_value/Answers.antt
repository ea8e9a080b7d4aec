use Rattle.linear.proofs.Values.{value_plus}
use Rattle.linear.proofs.laws.sum_value.Goals as goal

pub returns : goal.returns
returns c = value_plus

use Rattle.linear.proofs.Values.{value_minus}
use Rattle.linear.proofs.laws.difference_value.Goals as goal

pub returns : goal.returns
returns c = value_minus

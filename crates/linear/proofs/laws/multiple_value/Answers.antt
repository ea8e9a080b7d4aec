use Rattle.linear.proofs.Values.{value_scaled}
use Rattle.linear.proofs.laws.multiple_value.Goals as goal

pub returns : goal.returns
returns c = value_scaled

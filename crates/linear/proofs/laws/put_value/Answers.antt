use Rattle.linear.proofs.Values.{value_put}
use Rattle.linear.proofs.laws.put_value.Goals as goal

pub returns : goal.returns
returns c = value_put

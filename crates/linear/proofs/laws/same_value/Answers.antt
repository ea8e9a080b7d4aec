use Rattle.linear.proofs.Respects.{same_value}
use Rattle.linear.proofs.laws.same_value.Goals as goal

pub returns : goal.returns
returns c = same_value

use Rattle.std.proofs.Common.{arith}
use Rattle.linear_shown.specs.Index.{weight}
use Rattle.linear_shown.proofs.weight.weight.Goals as goal

pub returns-clause-value : goal.returns-clause-value
unfolding weight
returns-clause-value c = omega (arith, c.spread_square-first.ensures.value, c.spread_square-second.ensures.value)

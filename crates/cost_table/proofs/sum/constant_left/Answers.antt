use Rattle.std.proofs.Common.{arith}
use Rattle.std.proofs.lemmas.Int.{ints}
use Rattle.cost_table.proofs.sum.constant_left.Goals as goal

pub returns : goal.returns
returns c = omega (arith, ints)

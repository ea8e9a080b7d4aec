use Rattle.std.proofs.Common.{rules}
use Rattle.std.proofs.lemmas.Int.{wraps}
use Rattle.frame_engine.proofs.arithmetic.sum.Goals as goal

pub returns : goal.returns
returns c = search (rules, wraps)

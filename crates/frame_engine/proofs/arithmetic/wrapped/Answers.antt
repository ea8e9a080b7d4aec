use Rattle.std.proofs.Common.{rules}
use Rattle.std.proofs.lemmas.Int.{to_z-of_z}
use Rattle.frame_engine.proofs.Bits.{wrapped_is}
use Rattle.frame_engine.proofs.arithmetic.wrapped.Goals as goal

pub returns-clause-value : goal.returns-clause-value
returns-clause-value c = search (rules, wrapped_is, to_z-of_z)

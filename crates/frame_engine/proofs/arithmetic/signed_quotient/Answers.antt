use Rattle.std.proofs.Common.{rules, FitsSigned, int_div}
use Rattle.std.specs.Int.{w64}
use Rattle.std.proofs.lemmas.Int.{to_z-of_z}
use Rattle.frame_engine.proofs.Bits.{written, gives_divisor}
use Rattle.frame_engine.proofs.Division.{divisor_given}
use Rattle.frame_engine.proofs.arithmetic.signed_quotient.Goals as goal

pub returns : goal.returns
returns c =
    let fit : FitsSigned w64 (int_div c.args.left c.args.right) = search rules in
    gives_divisor _ _ _ (divisor_given _ _ c.requires.given) (rw (written c.args.left c.ranges.left.sfits, written c.args.right c.ranges.right.sfits) (to_z-of_z w64 (int_div c.args.left c.args.right) fit))

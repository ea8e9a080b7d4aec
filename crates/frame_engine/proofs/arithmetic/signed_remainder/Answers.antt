use Rattle.std.proofs.Common.{FitsSigned, int_rem, arith}
use Rattle.std.specs.Int.{w64}
use Rattle.std.specs.Int.Signed.{mag_rem}
use Rattle.std.proofs.lemmas.Int.{to_z-of_z}
use Rattle.frame_engine.proofs.Bits.{written, gives_divisor}
use Rattle.frame_engine.proofs.Division.{divisor_given}
use Rattle.frame_engine.proofs.arithmetic.signed_remainder.Goals as goal

pub returns : goal.returns
returns c =
    let fit : FitsSigned w64 (int_rem c.args.left c.args.right) = record { sfits = omega (arith, mag_rem c.args.left c.args.right, c.ranges.left.sfits) } in
    gives_divisor _ _ _ (divisor_given _ _ c.requires.given) (rw (written c.args.left c.ranges.left.sfits, written c.args.right c.ranges.right.sfits) (to_z-of_z w64 (int_rem c.args.left c.args.right) fit))

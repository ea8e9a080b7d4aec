use Rattle.std.proofs.Common.{rules, ap}
use Rattle.std.proofs.lemmas.Int.{wraps}
use Rattle.semantics.specs.Arithmetic.{Gives}
use Rattle.syntax.specs.declared.operator.BinaryOperator.TheVariants as operators
use Rattle.frame_engine.proofs.Bits.{written, wrapped_once}
use Rattle.frame_engine.proofs.Division.{handed, handed_back}
use Rattle.frame_engine.proofs.arithmetic.operate.Goals as goal

pub returns-in-Add : goal.returns-in-Add
returns-in-Add c = search (rules, wraps, wrapped_once)

pub returns-in-Subtract : goal.returns-in-Subtract
returns-in-Subtract c = search (rules, wraps, wrapped_once)

pub returns-in-Multiply : goal.returns-in-Multiply
returns-in-Multiply c = search (rules, wraps, wrapped_once)

pub signed_quotient-requires : goal.signed_quotient-requires
signed_quotient-requires c = record {
  left = rw (written c.args.left c.ranges.left.sfits) c.requires.left;
  right = rw (written c.args.right c.ranges.right.sfits) c.requires.right;
  given = handed c.args.operator operators.SignedDivide c.args.width c.args.left c.args.right _ _ c.in-SignedDivide.is (written c.args.left c.ranges.left.sfits) (written c.args.right c.ranges.right.sfits) c.requires.given;
}

pub returns-in-SignedDivide : goal.returns-in-SignedDivide
returns-in-SignedDivide c = handed_back c.args.operator operators.SignedDivide c.args.width c.args.left c.args.right _ _ c.signed_quotient.result _ c.in-SignedDivide.is (written c.args.left c.ranges.left.sfits) (written c.args.right c.ranges.right.sfits) (written c.signed_quotient.result c.signed_quotient.type_inv) c.signed_quotient.ensures

pub unsigned_quotient-requires : goal.unsigned_quotient-requires
unsigned_quotient-requires c = record {
  left = rw (written c.args.left c.ranges.left.sfits) c.requires.left;
  right = rw (written c.args.right c.ranges.right.sfits) c.requires.right;
  given = handed c.args.operator operators.UnsignedDivide c.args.width c.args.left c.args.right _ _ c.in-UnsignedDivide.is (written c.args.left c.ranges.left.sfits) (written c.args.right c.ranges.right.sfits) c.requires.given;
}

pub returns-in-UnsignedDivide : goal.returns-in-UnsignedDivide
returns-in-UnsignedDivide c = handed_back c.args.operator operators.UnsignedDivide c.args.width c.args.left c.args.right _ _ c.unsigned_quotient.result _ c.in-UnsignedDivide.is (written c.args.left c.ranges.left.sfits) (written c.args.right c.ranges.right.sfits) (written c.unsigned_quotient.result c.unsigned_quotient.type_inv) c.unsigned_quotient.ensures

pub signed_remainder-requires : goal.signed_remainder-requires
signed_remainder-requires c = record {
  left = rw (written c.args.left c.ranges.left.sfits) c.requires.left;
  right = rw (written c.args.right c.ranges.right.sfits) c.requires.right;
  given = handed c.args.operator operators.SignedRemainder c.args.width c.args.left c.args.right _ _ c.in-SignedRemainder.is (written c.args.left c.ranges.left.sfits) (written c.args.right c.ranges.right.sfits) c.requires.given;
}

pub returns-in-SignedRemainder : goal.returns-in-SignedRemainder
returns-in-SignedRemainder c = handed_back c.args.operator operators.SignedRemainder c.args.width c.args.left c.args.right _ _ c.signed_remainder.result _ c.in-SignedRemainder.is (written c.args.left c.ranges.left.sfits) (written c.args.right c.ranges.right.sfits) (written c.signed_remainder.result c.signed_remainder.type_inv) c.signed_remainder.ensures

pub unsigned_remainder-requires : goal.unsigned_remainder-requires
unsigned_remainder-requires c = record {
  left = rw (written c.args.left c.ranges.left.sfits) c.requires.left;
  right = rw (written c.args.right c.ranges.right.sfits) c.requires.right;
  given = handed c.args.operator operators.UnsignedRemainder c.args.width c.args.left c.args.right _ _ c.in-UnsignedRemainder.is (written c.args.left c.ranges.left.sfits) (written c.args.right c.ranges.right.sfits) c.requires.given;
}

pub returns-in-UnsignedRemainder : goal.returns-in-UnsignedRemainder
returns-in-UnsignedRemainder c = handed_back c.args.operator operators.UnsignedRemainder c.args.width c.args.left c.args.right _ _ c.unsigned_remainder.result _ c.in-UnsignedRemainder.is (written c.args.left c.ranges.left.sfits) (written c.args.right c.ranges.right.sfits) (written c.unsigned_remainder.result c.unsigned_remainder.type_inv) c.unsigned_remainder.ensures

pub shifted_left-requires : goal.shifted_left-requires
shifted_left-requires c = record {
  left = rw (written c.args.left c.ranges.left.sfits) c.requires.left;
  right = rw (written c.args.right c.ranges.right.sfits) c.requires.right;
  given = handed c.args.operator operators.ShiftLeft c.args.width c.args.left c.args.right _ _ c.in-ShiftLeft.is (written c.args.left c.ranges.left.sfits) (written c.args.right c.ranges.right.sfits) c.requires.given;
}

pub returns-in-ShiftLeft : goal.returns-in-ShiftLeft
returns-in-ShiftLeft c = handed_back c.args.operator operators.ShiftLeft c.args.width c.args.left c.args.right _ _ c.shifted_left.result _ c.in-ShiftLeft.is (written c.args.left c.ranges.left.sfits) (written c.args.right c.ranges.right.sfits) (written c.shifted_left.result c.shifted_left.type_inv) c.shifted_left.ensures

pub shifted_right-requires : goal.shifted_right-requires
shifted_right-requires c = record {
  left = rw (written c.args.left c.ranges.left.sfits) c.requires.left;
  right = rw (written c.args.right c.ranges.right.sfits) c.requires.right;
  given = handed c.args.operator operators.LogicalShiftRight c.args.width c.args.left c.args.right _ _ c.in-LogicalShiftRight.is (written c.args.left c.ranges.left.sfits) (written c.args.right c.ranges.right.sfits) c.requires.given;
}

pub returns-in-LogicalShiftRight : goal.returns-in-LogicalShiftRight
returns-in-LogicalShiftRight c = handed_back c.args.operator operators.LogicalShiftRight c.args.width c.args.left c.args.right _ _ c.shifted_right.result _ c.in-LogicalShiftRight.is (written c.args.left c.ranges.left.sfits) (written c.args.right c.ranges.right.sfits) (written c.shifted_right.result c.shifted_right.type_inv) c.shifted_right.ensures

pub shifted_right_signed-requires : goal.shifted_right_signed-requires
shifted_right_signed-requires c = record {
  left = rw (written c.args.left c.ranges.left.sfits) c.requires.left;
  right = rw (written c.args.right c.ranges.right.sfits) c.requires.right;
  given = handed c.args.operator operators.ArithmeticShiftRight c.args.width c.args.left c.args.right _ _ c.in-ArithmeticShiftRight.is (written c.args.left c.ranges.left.sfits) (written c.args.right c.ranges.right.sfits) c.requires.given;
}

pub returns-in-ArithmeticShiftRight : goal.returns-in-ArithmeticShiftRight
returns-in-ArithmeticShiftRight c = handed_back c.args.operator operators.ArithmeticShiftRight c.args.width c.args.left c.args.right _ _ c.shifted_right_signed.result _ c.in-ArithmeticShiftRight.is (written c.args.left c.ranges.left.sfits) (written c.args.right c.ranges.right.sfits) (written c.shifted_right_signed.result c.shifted_right_signed.type_inv) c.shifted_right_signed.ensures

pub returns-in-And : goal.returns-in-And
returns-in-And c =
    handed_back c.args.operator operators.And c.args.width c.args.left c.args.right _ _ c.both.result _ c.in-And.is (written c.args.left c.ranges.left.sfits) (written c.args.right c.ranges.right.sfits) (written c.both.result c.both.type_inv) (ap Gives (c.both.ensures (rw (written c.args.left c.ranges.left.sfits) c.requires.left) (rw (written c.args.right c.ranges.right.sfits) c.requires.right)))

pub returns-in-Or : goal.returns-in-Or
returns-in-Or c =
    handed_back c.args.operator operators.Or c.args.width c.args.left c.args.right _ _ c.either.result _ c.in-Or.is (written c.args.left c.ranges.left.sfits) (written c.args.right c.ranges.right.sfits) (written c.either.result c.either.type_inv) (ap Gives (c.either.ensures (rw (written c.args.left c.ranges.left.sfits) c.requires.left) (rw (written c.args.right c.ranges.right.sfits) c.requires.right)))

pub returns-in-ExclusiveOr : goal.returns-in-ExclusiveOr
returns-in-ExclusiveOr c =
    handed_back c.args.operator operators.ExclusiveOr c.args.width c.args.left c.args.right _ _ c.differing.result _ c.in-ExclusiveOr.is (written c.args.left c.ranges.left.sfits) (written c.args.right c.ranges.right.sfits) (written c.differing.result c.differing.type_inv) (ap Gives (c.differing.ensures (rw (written c.args.left c.ranges.left.sfits) c.requires.left) (rw (written c.args.right c.ranges.right.sfits) c.requires.right)))

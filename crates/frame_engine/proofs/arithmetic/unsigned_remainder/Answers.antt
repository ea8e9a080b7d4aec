use mir.Val.{bits as bits_of}
use Rattle.semantics.specs.Arithmetic.{word}
use Rattle.std.proofs.Common.{◌∙◌, ◌<◌, ◌^◌, ◌%◌, arith}
use Rattle.std.proofs.Math.Nat.{mod-le}
use Rattle.frame_engine.proofs.Bits.{read_again, written, bits_are, gives_divisor}
use Rattle.frame_engine.proofs.Division.{divisor_given, divisor_positive}
use Rattle.frame_engine.proofs.arithmetic.unsigned_remainder.Goals as goal

pub nonzero_rem-unsigned : goal.nonzero_rem-unsigned
nonzero_rem-unsigned c =
    let n = read_again c.args.width c.args.right c.unsigned-2.result c.ranges.right c.unsigned-2.ensures.value c.requires.right in
    divisor_positive c.args.width c.args.right c.unsigned-2.result c.requires.right n (divisor_given _ _ c.requires.given)

pub returns : goal.returns
returns c =
    let m = read_again c.args.width c.args.left c.unsigned.result c.ranges.left c.unsigned.ensures.value c.requires.left in
    let n = read_again c.args.width c.args.right c.unsigned-2.result c.ranges.right c.unsigned-2.ensures.value c.requires.right in
    let small : c.unsigned.result % c.unsigned-2.result < 2 ^ bits_of (word c.args.width) = omega (arith, mod-le c.unsigned.result c.unsigned-2.result, c.unsigned.ensures.in_range) in
    gives_divisor _ _ _ (divisor_given _ _ c.requires.given) (written c.signed.result c.signed.type_inv ∙ bits_are (λ a b. a % b) c.args.width c.args.left c.args.right c.signed.result c.unsigned.result c.unsigned-2.result m n (c.signed.ensures.value small))

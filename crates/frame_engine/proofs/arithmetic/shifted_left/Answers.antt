use mir.Val.{bits as bits_of}
use Rattle.semantics.specs.Arithmetic.{word, signed}
use Rattle.std.proofs.Common.{◌∙◌, ap, ◌^◌, ◌*◌, ◌%◌}
use Rattle.frame_engine.proofs.Bits.{read_again, written, bits_are, gives_amount, shifted_bits}
use Rattle.frame_engine.proofs.Division.{amount_given, amount_small}
use Rattle.frame_engine.proofs.arithmetic.shifted_left.Goals as goal

pub overflow_shl-unsigned : goal.overflow_shl-unsigned
overflow_shl-unsigned c =
    let n = read_again c.args.width c.args.right c.unsigned-2.result c.ranges.right c.unsigned-2.ensures.value c.requires.right in
    amount_small c.args.width c.unsigned-2.result _ n (amount_given _ _ c.requires.given)

pub returns : goal.returns
returns c =
    let m = read_again c.args.width c.args.left c.unsigned.result c.ranges.left c.unsigned.ensures.value c.requires.left in
    let n = read_again c.args.width c.args.right c.unsigned-2.result c.ranges.right c.unsigned-2.ensures.value c.requires.right in
    let low = c.signed.ensures.low_bits ∙ ap (signed c.args.width) (shifted_bits c.args.width (c.unsigned.result * 2 ^ c.unsigned-2.result)) in
    gives_amount _ _ _ (amount_given _ _ c.requires.given) (written c.signed.result c.signed.type_inv ∙ bits_are (λ a b. a * 2 ^ b % 2 ^ bits_of (word c.args.width)) c.args.width c.args.left c.args.right c.signed.result c.unsigned.result c.unsigned-2.result m n low)

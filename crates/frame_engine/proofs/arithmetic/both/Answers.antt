use mir.Val.{bits as bits_of}
use Rattle.semantics.specs.Arithmetic.{word}
use Rattle.std.proofs.Common.{◌∙◌, bit_and}
use Rattle.std.specs.Int.Bits.{and_lt}
use Rattle.frame_engine.proofs.Bits.{read_again, written, bits_are}
use Rattle.frame_engine.proofs.arithmetic.both.Goals as goal

pub returns : goal.returns
returns c f g =
    let m = read_again c.args.width c.args.left c.unsigned.result c.ranges.left c.unsigned.ensures.value f in
    let n = read_again c.args.width c.args.right c.unsigned-2.result c.ranges.right c.unsigned-2.ensures.value g in
    let small = and_lt (bits_of (word c.args.width)) c.unsigned.result c.unsigned-2.result c.unsigned.ensures.in_range c.unsigned-2.ensures.in_range in
    written c.signed.result c.signed.type_inv ∙ bits_are bit_and c.args.width c.args.left c.args.right c.signed.result c.unsigned.result c.unsigned-2.result m n (c.signed.ensures.value small)

use Rattle.std.proofs.Common.{pos, w64, FitsSigned, get_or, rules}
use Rattle.std.proofs.lemmas.Int.{to_z-of_z}
use Rattle.cli_words.specs.io.Data.{bytes_of}
use Rattle.cli_words.proofs.io.Joined.{joined_more}
use Rattle.cli_words.proofs.io.words.write_words.Goals as goal

pub loop-number-preserved : goal.loop-number-preserved
loop-number-preserved c =
    let fits : FitsSigned w64 (get_or c.args.numbers.now c.loop-number.number-index (pos 0)) = search rules in
    rw (c.in_ok-extend_from_slice.ensures.items, c.bytes_of.ensures, to_z-of_z w64 (get_or c.args.numbers.now c.loop-number.number-index (pos 0)) fits)
    (joined_more bytes_of c.args.numbers.now c.loop-number.number-index (pos 0) c.loop-number.bytes.items c.loop-number-test.true c.loop-number.invariant)

use Rattle.std.proofs.Common.{w64, FitsSigned, [], rules}
use Rattle.std.proofs.lemmas.Int.{to_z-of_z}
use Rattle.cli_words.specs.io.Data.{word_of}
use Rattle.cli_words.proofs.io.Joined.{mapped_more}
use Rattle.cli_words.proofs.io.words.read_words.Goals as goal

pub loop-word-preserved : goal.loop-word-preserved
loop-word-preserved c =
    let fits : FitsSigned w64 c.number_of.result = search rules in
    rw (c.in_ok-push.ensures.items, to_z-of_z w64 c.number_of.result fits, c.number_of.ensures)
    (mapped_more word_of c.as_chunks.result.0.now c.loop-word.word-index [] c.loop-word.numbers.items c.loop-word-test.true c.loop-word.invariant)

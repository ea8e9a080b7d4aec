use Rattle.std.proofs.Common.{◌≡◌, map, take}
use Rattle.cli_words.specs.io.Data.{word_of}
use Rattle.cli_words.proofs.io.words.read_words.Given as goal

abbrev pub invariant-loop-word : goal.invariant-loop-word
invariant-loop-word l = l.numbers.items ≡ map word_of (take l.word-index l.words)

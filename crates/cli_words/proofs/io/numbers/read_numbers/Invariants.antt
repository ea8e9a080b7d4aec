use Rattle.std.proofs.Common.{length}
use Rattle.cli_words.proofs.io.Progress.{Progress}
use Rattle.cli_words.proofs.io.numbers.read_numbers.Given as goal

abbrev pub invariant-loop-word : goal.invariant-loop-word
invariant-loop-word l = Progress l.text l.rest l.numbers.items

abbrev pub decreases-loop-word : goal.decreases-loop-word
decreases-loop-word l = length l.rest

use Rattle.std.proofs.Common.{◌≡◌, take}
use Rattle.std.specs.Prelude.{flat_map}
use Rattle.cli_words.specs.io.Data.{bytes_of}
use Rattle.cli_words.proofs.io.words.write_words.Given as goal

abbrev pub invariant-loop-number : goal.invariant-loop-number
invariant-loop-number l = l.bytes.items ≡ flat_map bytes_of (take l.number-index l.numbers)

use Rattle.std.proofs.Common.{◌≡◌, take}
use Rattle.std.specs.Prelude.{flat_map, string_bytes}
use Rattle.cli_words.specs.io.Data.{line_of}
use Rattle.cli_words.proofs.io.numbers.print_numbers.Given as goal

abbrev pub invariant-loop-number : goal.invariant-loop-number
invariant-loop-number l = string_bytes l.text ≡ flat_map line_of (take l.number-index l.numbers)

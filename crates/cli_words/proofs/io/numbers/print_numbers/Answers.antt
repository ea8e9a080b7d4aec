use Rattle.std.proofs.Common.{w64, FitsSigned, [], ◌∷◌, get_or, append_assoc, rules, pos}
use Rattle.std.specs.Prelude.{string_bytes}
use Rattle.std.specs.Fmt.{signed_decimal}
use Rattle.std.proofs.lemmas.Int.{to_z-of_z}
use Rattle.cli_words.specs.io.Data.{line_of}
use Rattle.cli_words.proofs.io.Joined.{joined_more}
use Rattle.cli_words.proofs.io.numbers.print_numbers.Goals as goal

pub loop-number-preserved : goal.loop-number-preserved
loop-number-preserved c =
    let fits : FitsSigned w64 (get_or c.args.numbers.now c.loop-number.number-index (pos 0)) = search rules in
    rw (
      c.in_ok-push_str-2.ensures.bytes,
      c.in_ok-push_str.ensures.bytes,
      c.format.ensures.text,
      to_z-of_z w64 (get_or c.args.numbers.now c.loop-number.number-index (pos 0)) fits,
      append_assoc (string_bytes c.loop-number.text) (signed_decimal (get_or c.args.numbers.now c.loop-number.number-index (pos 0))) (10 ∷ []),
    )
    (joined_more line_of c.args.numbers.now c.loop-number.number-index (pos 0) (string_bytes c.loop-number.text) c.loop-number-test.true c.loop-number.invariant)

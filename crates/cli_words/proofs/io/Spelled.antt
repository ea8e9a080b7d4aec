-- A number's word is ASCII.
use Rattle.std.proofs.Common.{◌≡◌, ℕ, ℤ, true, false, eqb, List, [], ◌∷◌, IsUtf8, arith}
use Rattle.std.specs.Str.{IsAscii}
use Rattle.std.specs.Str.Parse.{IsNumeral, without_leading_sign}
use Rattle.std.proofs.lemmas.Bool.{eqb-true}
use Rattle.std.proofs.lemmas.Fmt.{IsAscii-from_digits}
use Rattle.std.proofs.lemmas.Str.{IsUtf8-from_ascii}
use Rattle.std.proofs.lemmas.Str.Ascii.{IsAscii-cons, IsAscii-nil}
use Rattle.cli_words.specs.io.Data.{IsNumber}
use Rattle.cli_words.proofs.io.Scans.{by_test}

number_ascii : (word : List ℕ) → IsNumeral 10 (without_leading_sign word) → IsAscii word
number_ascii [] h = IsAscii-nil
number_ascii (c ∷ cs) h = by_test (eqb c 45)
    (λ (minus : eqb c 45 ≡ true).
    let digits : IsNumeral 10 cs = rw minus at h in
    let is : c ≡ 45 = eqb-true c 45 minus in
    IsAscii-cons c cs (omega (arith, is)) (IsAscii-from_digits cs digits.1))
    (λ (none : eqb c 45 ≡ false). by_test (eqb c 43)
    (λ (plus : eqb c 43 ≡ true).
    let digits : IsNumeral 10 cs = rw (none, plus) at h in
    let is : c ≡ 43 = eqb-true c 43 plus in
    IsAscii-cons c cs (omega (arith, is)) (IsAscii-from_digits cs digits.1))
    (λ (bare : eqb c 43 ≡ false).
    let digits : IsNumeral 10 (c ∷ cs) = rw (none, bare) at h in
    IsAscii-from_digits (c ∷ cs) digits.1))

pub number_utf8 : (word : List ℕ) (z : ℤ) → IsNumber word z → IsUtf8 word
number_utf8 word z h = IsUtf8-from_ascii word (number_ascii word h.is_numeral)

-- Digits as a numeral: what std says of them, and what a list of them says.
use Rattle.std.proofs.Common.{◌≡◌, ℕ, ◌^◌, ◌<◌, true, List, [], ◌∷◌, refl, arith}
use Rattle.std.specs.Char.{is_ascii_digit}
use Rattle.std.specs.List.{list_all}
use Rattle.std.specs.Str.{all_ascii_digits}
use Rattle.std.specs.Str.Parse.{digits_value}
use Rattle.std.specs.Fmt.{decimal}
use Rattle.std.proofs.lemmas.Bool.{and_parts, and_from}
use Rattle.std.proofs.lemmas.Fmt.{digits_decimal}
use Rattle.std.proofs.lemmas.Str.Parse.{IsNumeralModel, numerals_by_value, tells_all_ascii_digits}

pub own : IsNumeralModel (λ ds. all_ascii_digits ds ≡ true) (digits_value 10)
own = numerals_by_value _ tells_all_ascii_digits

pub digits : (bs : List ℕ) → list_all is_ascii_digit bs ≡ true → all_ascii_digits bs ≡ true
digits [] h = refl
digits (b ∷ bs) h = let t = and_parts (is_ascii_digit b) (list_all is_ascii_digit bs) h in rw (t.0, digits bs t.1) refl

pub digits_listed : (ds : List ℕ) → all_ascii_digits ds ≡ true → list_all is_ascii_digit ds ≡ true
digits_listed [] h = refl
digits_listed (b ∷ bs) h = let t = and_parts (is_ascii_digit b) (all_ascii_digits bs) h in and_from (is_ascii_digit b) (list_all is_ascii_digit bs) t.0 (digits_listed bs t.1)

pub decimal_digits : (n : ℕ) → n < 2 ^ 63 → all_ascii_digits (decimal n) ≡ true
decimal_digits n h = digits_decimal own n (omega arith)

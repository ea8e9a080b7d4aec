-- Numerals hold digits alone.
use Rattle.std.proofs.Common.{◌≡◌, ℕ, ◌<◌, true, false, eqb, List, [], ◌∷◌, refl, sym, ◌∙◌, arith}
use Rattle.std.specs.Char.{is_ascii_digit}
use Rattle.std.specs.Str.{all_ascii_digits}
use Rattle.std.proofs.lemmas.Bool.Decides.{nat_tests}
use Rattle.std.proofs.lemmas.Bool.{and_parts}
use Rattle.ir_lex.proofs.Numerals.{numeral_digits}
use Rattle.schedule_text.specs.ScheduleText.{IsNumeral}
use Rattle.schedule_text.proofs.Cuts.{lacks}

digits_lack : (byte : ℕ) (ds : List ℕ) → byte < 48 → all_ascii_digits ds ≡ true → lacks byte ds
digits_lack byte [] low h = refl
digits_lack byte (d ∷ ds) low h =
    let b = and_parts (is_ascii_digit d) (all_ascii_digits ds) h in
    let digit : is_ascii_digit d ≡ true = b.0 in
    let other : eqb d byte ≡ false = grind (arith, nat_tests) in
    rw other (digits_lack byte ds low b.1)

pub numeral_lacks : (byte : ℕ) (ds : List ℕ) (n : ℕ) → byte < 48 → IsNumeral ds n → lacks byte ds
numeral_lacks byte ds n low h = digits_lack byte ds low (numeral_digits ds h.is_spelled)

pub same_number : (ds : List ℕ) (m n : ℕ) → IsNumeral ds m → IsNumeral ds n → m ≡ n
same_number ds m n one other = sym one.value ∙ other.value

-- A number that is printed is a number's token, and stands for itself.
use Rattle.std.proofs.Common.{◌≡◌, ℕ, zero, suc, ◌^◌, ◌<◌, ◌≤◌, Bool, true, false, cond, eqb, leb, List, [], ◌∷◌, length, get_or, Some, None, refl, sym, subst, ap, ◌∙◌, arith}
use Rattle.std.specs.Prelude.{◌&&◌, ◌||◌, ℤ, pos, negsuc, nat_le}
use Rattle.std.specs.Char.{is_ascii_digit}
use Rattle.std.specs.List.{list_all}
use Rattle.std.specs.Str.{all_ascii_digits}
use Rattle.std.specs.Fmt.{decimal, signed_decimal}
use Rattle.std.specs.Str.Parse.{digits_value, signed_digits_value}
use Rattle.std.proofs.lemmas.Bool.{ltb-true, leb-true, and_parts}
use Rattle.std.proofs.lemmas.Bool.Decides.{nat_tests}
use Rattle.std.proofs.lemmas.Fmt.{decimal_digit, first_decimal, decimal_is_IsNumeral}
use Rattle.ir_lex.specs.Spelling.{is_positive, is_number}
use Rattle.ir_instruction.specs.Symbols.{fits_i64, number_of}
use Rattle.ir_lex.proofs.Digits.{own, digits_listed}

at_least_one : (b : ℕ) → 48 < b → is_ascii_digit b ≡ true → (nat_le 49 b && nat_le b 57) ≡ true
at_least_one b h d =
    let t = and_parts (leb 48 b) (leb b 57) d in
    let high : leb b 57 ≡ true = t.1 in
    let low : leb 49 b ≡ true = grind (arith, nat_tests) in
    rw (low, high) refl

positive_of : (ds : List ℕ) → 0 < length ds → 48 < get_or ds 0 0 → all_ascii_digits ds ≡ true → is_positive ds ≡ true
positive_of [] some h d = absurd (omega arith)
positive_of (b ∷ bs) some h d =
    let t = and_parts (is_ascii_digit b) (all_ascii_digits bs) d in
    rw (at_least_one b h t.0, digits_listed bs t.1) refl

-- what the digits of a number from 1 on are
pub record IsDigits (n : ℕ) (ds : List ℕ) : Type 0 where
  pub positive : is_positive ds ≡ true
  pub value : digits_value 10 ds ≡ n

decimal_digits : (n : ℕ) → 0 < n → n < 2 ^ 64 → IsDigits n (decimal n)
decimal_digits n some small =
    let d = decimal_is_IsNumeral n small in
    let first : 48 < get_or (decimal n) 0 0 = first_decimal n some small in
    let digits : all_ascii_digits (decimal n) ≡ true = own.from (decimal n) d.0.1 in
    record { positive = positive_of (decimal n) d.0.0 first digits; value = d.1 }

-- a text that is a number's token and stands for z
pub record IsNumberOf (z : ℤ) (text : List ℕ) : Type 0 where
  pub number : is_number text ≡ true
  pub value : signed_digits_value 10 text ≡ z

or_true : (b : Bool) → (b || true) ≡ true
or_true true = refl
or_true false = refl

one_to_nine : (b : ℕ) (bs : List ℕ) → is_positive (b ∷ bs) ≡ true → (49 ≤ b) × (b ≤ 57)
one_to_nine b bs h =
    let t = and_parts (leb 49 b && leb b 57) (list_all is_ascii_digit bs) h in
    let r = and_parts (leb 49 b) (leb b 57) t.0 in
    (leb-true 49 b r.0, leb-true b 57 r.1)

plain_number : (n : ℕ) (ds : List ℕ) → IsDigits n ds → IsNumberOf (pos n) ds
plain_number n [] d = let none : false ≡ true = d.positive in absurd cc
plain_number n (b ∷ bs) d =
    let r = one_to_nine b bs d.positive in
    let minus : eqb b 45 ≡ false = grind (arith, nat_tests) in
    let plus : eqb b 43 ≡ false = grind (arith, nat_tests) in
    record {
      number = rw d.positive (or_true (eqb b 48 && eqb (length bs) 0 || eqb b 45 && is_positive bs));
      value = rw (minus, plus) (ap pos d.value);
    }

minus_number : (n : ℕ) (ds : List ℕ) → IsDigits (suc n) ds → IsNumberOf (negsuc n) (45 ∷ ds)
minus_number n ds d = record { number = rw d.positive refl; value = rw d.value refl }

zero_number : IsNumberOf (pos 0) (48 ∷ [])
zero_number = record { number = refl; value = refl }

pub number_of_printed : (z : ℤ) → fits_i64 z ≡ true → IsNumberOf z (signed_decimal z)
number_of_printed (pos zero) h = subst (IsNumberOf (pos 0)) (sym (decimal_digit 0 (omega arith))) zero_number
number_of_printed (pos (suc n)) h =
    let small : suc n < 2 ^ 63 = ltb-true (suc n) (2 ^ 63) h in
    plain_number (suc n) (decimal (suc n)) (decimal_digits (suc n) (omega arith) (omega arith))
number_of_printed (negsuc n) h =
    let small : n < 2 ^ 63 = ltb-true n (2 ^ 63) h in
    minus_number n (decimal (suc n)) (decimal_digits (suc n) (omega arith) (omega arith))

pub value_of_printed : (z : ℤ) → fits_i64 z ≡ true → number_of (signed_decimal z) ≡ Some z
unfolding number_of
value_of_printed z h =
    let e : signed_digits_value 10 (signed_decimal z) ≡ z = (number_of_printed z h).value in
    ap (λ (y : ℤ). cond (fits_i64 y) (Some y) None) e ∙ ap (λ (b : Bool). cond b (Some z) None) h

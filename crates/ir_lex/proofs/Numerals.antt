-- A numeral is digits, and what parsing gives of it is its value.
use Rattle.std.proofs.Common.{◌≡◌, ℕ, ◌^◌, ◌<◌, inl, inr, true, false, eqb, ltb, List, [], ◌∷◌, length, Some, None, Ok, Err, refl, sym, subst, ap, ◌∙◌, arith}
use Rattle.std.specs.Prelude.{◌&&◌, nat_le, IsUtf8}
use Rattle.std.specs.Char.{is_ascii_digit}
use Rattle.std.specs.List.{list_all}
use Rattle.std.specs.Str.{all_ascii_digits}
use Rattle.std.specs.Str.Parse.{digits_value, ParsesUnsigned}
use Rattle.std.proofs.lemmas.Bool.{eqb-true, ltb-true, lt-ltb, and_parts, or_cases, false_from_ne_true}
use Rattle.std.proofs.lemmas.Bool.Decides.{nat_tests}
use Rattle.std.proofs.lemmas.Str.{IsUtf8-from_ascii}
use Rattle.std.proofs.lemmas.Str.Parse.{parse_digits}
use Rattle.std.proofs.lemmas.Fmt.{IsAscii-from_digits}
use Rattle.ir_lex.specs.Numerals.{is_numeral, small_value}
use Rattle.ir_lex.proofs.Digits.{own, digits}

pub numeral_digits : (word : List ℕ) → is_numeral word ≡ true → all_ascii_digits word ≡ true
numeral_digits [] h = absurd cc
numeral_digits (b ∷ bs) h =
    elim (or_cases (eqb b 48 && eqb (length bs) 0) ((nat_le 49 b && nat_le b 57) && list_all is_ascii_digit bs) h) [
      | inl w ↦ let t = and_parts (eqb b 48) (eqb (length bs) 0) w in lone b bs (eqb-true b 48 t.0) (eqb-true (length bs) 0 t.1)
      | inr w ↦
          let t = and_parts (nat_le 49 b && nat_le b 57) (list_all is_ascii_digit bs) w in
          let r = and_parts (nat_le 49 b) (nat_le b 57) t.0 in
          let first : is_ascii_digit b ≡ true = grind (arith, nat_tests) in
          rw (first, digits bs t.1) refl
    ]
  where
    lone : (b : ℕ) (bs : List ℕ) → b ≡ 48 → length bs ≡ 0 → all_ascii_digits (b ∷ bs) ≡ true
    lone b [] e h = subst (λ (c : ℕ). all_ascii_digits (c ∷ []) ≡ true) (sym e) refl
    lone b (c ∷ bs) e h = absurd (omega arith)

pub numeral_utf8 : (word : List ℕ) → is_numeral word ≡ true → IsUtf8 word
numeral_utf8 word h = IsUtf8-from_ascii word (IsAscii-from_digits word (own.to word (numeral_digits word h)))

numeral_length : (word : List ℕ) → is_numeral word ≡ true → 0 < length word
numeral_length [] h = absurd cc
numeral_length (b ∷ bs) h = omega arith

-- what parsing gives of a numeral
pub small_parsed : (t word : List ℕ) (n : ℕ) → t ≡ word → is_numeral word ≡ true → ParsesUnsigned {E = ℕ} 64 10 t (Ok n) → Some n ≡ small_value word
small_parsed t word n same h parsed =
    let p = parse_digits own {E = ℕ} 64 t (Ok n) parsed (subst (λ (u : List ℕ). all_ascii_digits u ≡ true) (sym same) (numeral_digits word h)) in
    let e : n ≡ digits_value 10 word = p.1 ∙ ap (digits_value 10) same in
    let small : digits_value 10 word < 2 ^ 64 = subst (λ (u : List ℕ). digits_value 10 u < 2 ^ 64) same p.0.1 in
    rw (lt-ltb (digits_value 10 word) (2 ^ 64) small, e) refl

pub large_parsed : (t word : List ℕ) → t ≡ word → is_numeral word ≡ true → ParsesUnsigned {E = ℕ} 64 10 t (Err 0) → None ≡ small_value word
large_parsed t word same h parsed =
    let p = parse_digits own {E = ℕ} 64 t (Err 0) parsed (subst (λ (u : List ℕ). all_ascii_digits u ≡ true) (sym same) (numeral_digits word h)) in
    let never : digits_value 10 word < 2 ^ 64 → ⊥ = λ (small : digits_value 10 word < 2 ^ 64).
    p (subst (λ (u : List ℕ). 0 < length u) (sym same) (numeral_length word h), subst (λ (u : List ℕ). digits_value 10 u < 2 ^ 64) (sym same) small) in
    let none : ltb (digits_value 10 word) (2 ^ 64) ≡ false =
    false_from_ne_true (ltb (digits_value 10 word) (2 ^ 64)) (λ (l : ltb (digits_value 10 word) (2 ^ 64) ≡ true). never (ltb-true (digits_value 10 word) (2 ^ 64) l)) in
    rw none refl

-- A number's token is a numeral.
use Rattle.std.proofs.Common.{◌≡◌, ℕ, ◌^◌, ◌≤◌, ◌⊎◌, inl, inr, Bool, true, false, cond, eqb, List, [], ◌∷◌, length, Some, None, refl, sym, subst, ap, ◌∙◌, arith}
use Rattle.std.specs.Prelude.{◌&&◌, ◌||◌, ℤ, pos, negsuc, nat_le, IsAscii}
use Rattle.std.specs.Int.{w64}
use Rattle.std.specs.Int.RustNames.{FitsSigned}
use Rattle.std.specs.Char.{is_ascii_digit}
use Rattle.std.specs.List.{list_all}
use Rattle.std.specs.Str.{all_ascii_digits}
use Rattle.std.specs.Str.Parse.{IsNumeral, without_leading_sign, signed_digits_value}
use Rattle.std.proofs.lemmas.Bool.{eqb-true, ltb-true, lt-ltb, and_parts, false_from_ne_true}
use Rattle.std.proofs.lemmas.Bool.Decides.{nat_tests}
use Rattle.std.proofs.lemmas.Str.Ascii.{IsAscii-cons}
use Rattle.std.proofs.lemmas.Fmt.{IsAscii-from_digits}
use Rattle.ir_lex.specs.Spelling.{is_number, is_positive}
use Rattle.ir_instruction.specs.Symbols.{fits_i64, number_of}
use Rattle.ir_lex.proofs.Digits.{own, digits}

one_of : (x y z : Bool) → (x || y || z) ≡ true → (x ≡ true) ⊎ ((y ≡ true) ⊎ (z ≡ true))
one_of true y z h = inl refl
one_of false true z h = inr (inl refl)
one_of false false true h = inr (inr refl)
one_of false false false h = absurd cc

positive_digits : (b : ℕ) (bs : List ℕ) → is_positive (b ∷ bs) ≡ true → (all_ascii_digits (b ∷ bs) ≡ true) × (49 ≤ b) × (b ≤ 57)
positive_digits b bs h =
    let t = and_parts (nat_le 49 b && nat_le b 57) (list_all is_ascii_digit bs) h in
    let r = and_parts (nat_le 49 b) (nat_le b 57) t.0 in
    let low : 49 ≤ b = grind (arith, nat_tests) in
    let high : b ≤ 57 = grind (arith, nat_tests) in
    let first : is_ascii_digit b ≡ true = grind (arith, nat_tests) in
    (rw (first, digits bs t.1) refl, low, high)

numeral_of : (b : ℕ) (bs : List ℕ) → all_ascii_digits (b ∷ bs) ≡ true → IsNumeral 10 (b ∷ bs)
numeral_of b bs h = (omega arith, own.to (b ∷ bs) h)

-- a number is a numeral behind its sign, and ASCII
pub record IsNumeralToken (text : List ℕ) : Type 0 where
  pub numeral : IsNumeral 10 (without_leading_sign text)
  pub ascii : IsAscii text

minus_token : (bs : List ℕ) → is_positive bs ≡ true → IsNumeralToken (45 ∷ bs)
minus_token [] h = absurd cc
minus_token (c ∷ cs) h =
    let d = positive_digits c cs h in
    record { numeral = numeral_of c cs d.0; ascii = IsAscii-cons 45 (c ∷ cs) (omega arith) (IsAscii-from_digits (c ∷ cs) (own.to (c ∷ cs) d.0)) }

plain_token : (b : ℕ) (bs : List ℕ) → all_ascii_digits (b ∷ bs) ≡ true → eqb b 45 ≡ false → eqb b 43 ≡ false → IsNumeralToken (b ∷ bs)
plain_token b bs h minus plus = record { numeral = rw (minus, plus) (numeral_of b bs h); ascii = IsAscii-from_digits (b ∷ bs) (own.to (b ∷ bs) h) }

zero_token : (b : ℕ) (bs : List ℕ) → b ≡ 48 → length bs ≡ 0 → IsNumeralToken (b ∷ bs)
zero_token b (c ∷ bs) e h = absurd (omega arith)
zero_token b [] e h = subst (λ (c : ℕ). IsNumeralToken (c ∷ [])) (sym e) (plain_token 48 [] refl refl refl)

pub numeral_token : (text : List ℕ) → is_number text ≡ true → IsNumeralToken text
numeral_token [] h = absurd cc
numeral_token (b ∷ bs) h =
    elim (one_of (eqb b 48 && eqb (length bs) 0) (eqb b 45 && is_positive bs) (is_positive (b ∷ bs)) h) [
      | inl w ↦ let t = and_parts (eqb b 48) (eqb (length bs) 0) w in zero_token b bs (eqb-true b 48 t.0) (eqb-true (length bs) 0 t.1)
      | inr v ↦ elim v [
        | inl w ↦
            let t = and_parts (eqb b 45) (is_positive bs) w in
            subst (λ (c : ℕ). IsNumeralToken (c ∷ bs)) (sym (eqb-true b 45 t.0)) (minus_token bs t.1)
        | inr w ↦
            let d = positive_digits b bs w in
            let low : 49 ≤ b = d.1 in
            let minus : eqb b 45 ≡ false = grind (arith, nat_tests) in
            let plus : eqb b 43 ≡ false = grind (arith, nat_tests) in
            plain_token b bs d.0 minus plus
      ]
    ]

pub in_range : (z : ℤ) → fits_i64 z ≡ true → FitsSigned w64 z
in_range (pos n) h = record { sfits = ltb-true n (2 ^ 63) h }
in_range (negsuc n) h = record { sfits = ltb-true n (2 ^ 63) h }

pub range_in : (z : ℤ) → FitsSigned w64 z → fits_i64 z ≡ true
range_in (pos n) h = lt-ltb n (2 ^ 63) h.sfits
range_in (negsuc n) h = lt-ltb n (2 ^ 63) h.sfits

pub out_of_range : (t text : List ℕ) → t ≡ text → is_number text ≡ true → (IsNumeral 10 (without_leading_sign t) × FitsSigned w64 (signed_digits_value 10 t) → ⊥) → None ≡ number_of text
unfolding number_of
out_of_range t text e is_one never =
    let none : fits_i64 (signed_digits_value 10 text) ≡ false = false_from_ne_true (fits_i64 (signed_digits_value 10 text)) (λ (h : fits_i64 (signed_digits_value 10 text) ≡ true).
    subst (λ (u : List ℕ). IsNumeral 10 (without_leading_sign u) × FitsSigned w64 (signed_digits_value 10 u) → ⊥) e never ((numeral_token text is_one).numeral, in_range (signed_digits_value 10 text) h)) in
    sym (ap (λ (b : Bool). cond b (Some (signed_digits_value 10 text)) None) none)

pub within_range : (t text : List ℕ) (n : ℤ) → t ≡ text → FitsSigned w64 (signed_digits_value 10 t) → n ≡ signed_digits_value 10 t → Some n ≡ number_of text
unfolding number_of
within_range t text n e fits is =
    let same : signed_digits_value 10 t ≡ signed_digits_value 10 text = ap (signed_digits_value 10) e in
    let yes : fits_i64 (signed_digits_value 10 text) ≡ true = range_in (signed_digits_value 10 text) (subst (FitsSigned w64) same fits) in
    ap Some (is ∙ same) ∙ sym (ap (λ (b : Bool). cond b (Some (signed_digits_value 10 text)) None) yes)

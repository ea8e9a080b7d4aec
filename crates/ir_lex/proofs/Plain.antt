-- The bytes of names, numbers and words are printed ASCII.
use Rattle.std.proofs.Common.{◌≡◌, ℕ, ◌≤◌, ◌<◌, ◌⊎◌, inl, inr, true, false, eqb, leb, List, [], ◌∷◌, length, refl, sym, subst, arith}
use Rattle.std.specs.Prelude.{◌||◌, ◌&&◌, not, codes, IsAscii}
use Rattle.std.specs.Int.{is_in_range}
use Rattle.std.specs.Char.{is_ascii_digit}
use Rattle.std.specs.List.{list_all, AllByRecursion}
use Rattle.std.proofs.lemmas.Bool.{eqb-true, and_parts, or_cases}
use Rattle.std.proofs.lemmas.Bool.Decides.{nat_tests}
use Rattle.std.proofs.lemmas.List.Elements.{All-from_recursion}
use Rattle.std.proofs.lemmas.Str.Ascii.{IsAscii-from_all}
use Rattle.ir_lex.specs.Spelling.{is_mark, begins_name, continues_name, is_name, is_positive, is_number, is_marked_name, is_printed}
use Rattle.ir_lex.specs.declared.token.Kind.{Kind}
use Rattle.ir_lex.specs.declared.token.Kind.TheVariants.{Name, Number, Word, Mark, Note}
use Rattle.ir_lex.specs.Lexemes.{HasKind}

in_range : (low high b : ℕ) → is_in_range low high b ≡ true → (low ≤ b) × (b ≤ high)
in_range low high b h = let t = and_parts (leb low b) (leb b high) h in (grind (arith, nat_tests), grind (arith, nat_tests))

printed_between : (b : ℕ) → 33 ≤ b → b ≤ 126 → eqb b 59 ≡ false → is_printed b ≡ true
printed_between b low high other = grind (arith, nat_tests)

not_semicolon : (b : ℕ) → (b < 59) ⊎ (59 < b) → eqb b 59 ≡ false
not_semicolon b (inl h) = grind (arith, nat_tests)
not_semicolon b (inr h) = grind (arith, nat_tests)

pub byte_printed : (b : ℕ) → continues_name b ≡ true → is_printed b ≡ true
byte_printed b h = elim (or_cases (begins_name b) (is_ascii_digit b) h) [
  | inl w ↦ elim (or_cases (is_in_range 65 90 b || is_in_range 97 122 b || eqb b 95) (eqb b 46) w) [
    | inl w ↦ elim (or_cases (is_in_range 65 90 b || is_in_range 97 122 b) (eqb b 95) w) [
      | inl w ↦ elim (or_cases (is_in_range 65 90 b) (is_in_range 97 122 b) w) [
        | inl w ↦ let r = in_range 65 90 b w in printed_between b (omega (arith, r.0)) (omega (arith, r.1)) (not_semicolon b (inr (omega (arith, r.0))))
        | inr w ↦ let r = in_range 97 122 b w in printed_between b (omega (arith, r.0)) (omega (arith, r.1)) (not_semicolon b (inr (omega (arith, r.0))))
      ]
      | inr w ↦ let e = eqb-true b 95 w in printed_between b (omega (arith, e)) (omega (arith, e)) (not_semicolon b (inr (omega (arith, e))))
    ]
    | inr w ↦ let e = eqb-true b 46 w in printed_between b (omega (arith, e)) (omega (arith, e)) (not_semicolon b (inl (omega (arith, e))))
  ]
  | inr w ↦ let r = in_range 48 57 b w in printed_between b (omega (arith, r.0)) (omega (arith, r.1)) (not_semicolon b (inl (omega (arith, r.1))))
]

bytes_printed : (bs : List ℕ) → list_all continues_name bs ≡ true → list_all is_printed bs ≡ true
bytes_printed [] h = refl
bytes_printed (b ∷ bs) h = let t = and_parts (continues_name b) (list_all continues_name bs) h in rw (byte_printed b t.0, bytes_printed bs t.1) refl

begins_continues : (b : ℕ) → begins_name b ≡ true → continues_name b ≡ true
begins_continues b h = rw h refl

pub name_printed : (w : List ℕ) → is_name w ≡ true → list_all is_printed w ≡ true
name_printed [] h = absurd cc
name_printed (b ∷ bs) h =
    let t = and_parts (begins_name b) (list_all continues_name bs) h in
    rw (byte_printed b (begins_continues b t.0), bytes_printed bs t.1) refl

printed_small : (b : ℕ) → is_printed b ≡ true → b < 128
printed_small b h =
    let t = and_parts (leb 33 b && leb b 126) (not (eqb b 59)) h in
    let r = and_parts (leb 33 b) (leb b 126) t.0 in
    grind (arith, nat_tests)

all_small : (w : List ℕ) → list_all is_printed w ≡ true → AllByRecursion (λ b. b < 128) w
all_small [] h = tt
all_small (b ∷ w) h = let t = and_parts (is_printed b) (list_all is_printed w) h in (printed_small b t.0, all_small w t.1)

pub printed_ascii : (w : List ℕ) → list_all is_printed w ≡ true → IsAscii w
printed_ascii w h = IsAscii-from_all w (All-from_recursion (λ b. b < 128) w (all_small w h))

pub digit_printed : (b : ℕ) → is_ascii_digit b ≡ true → is_printed b ≡ true
digit_printed b h = let r = in_range 48 57 b h in printed_between b (omega (arith, r.0)) (omega (arith, r.1)) (not_semicolon b (inl (omega (arith, r.1))))

digits_printed : (bs : List ℕ) → list_all is_ascii_digit bs ≡ true → list_all is_printed bs ≡ true
digits_printed [] h = refl
digits_printed (b ∷ bs) h = let t = and_parts (is_ascii_digit b) (list_all is_ascii_digit bs) h in rw (digit_printed b t.0, digits_printed bs t.1) refl

positive_printed : (w : List ℕ) → is_positive w ≡ true → list_all is_printed w ≡ true
positive_printed [] h = absurd cc
positive_printed (b ∷ bs) h =
    let t = and_parts (leb 49 b && leb b 57) (list_all is_ascii_digit bs) h in
    let r = in_range 49 57 b t.0 in
    rw (printed_between b (omega (arith, r.0)) (omega (arith, r.1)) (not_semicolon b (inl (omega (arith, r.1)))), digits_printed bs t.1) refl

empty_printed : (bs : List ℕ) → length bs ≡ 0 → list_all is_printed bs ≡ true
empty_printed [] h = refl
empty_printed (b ∷ bs) h = absurd (omega arith)

pub number_printed : (w : List ℕ) → is_number w ≡ true → list_all is_printed w ≡ true
number_printed [] h = absurd cc
number_printed (b ∷ bs) h = elim (or_cases (eqb b 48 && eqb (length bs) 0 || eqb b 45 && is_positive bs) (is_positive (b ∷ bs)) h) [
  | inl w ↦ elim (or_cases (eqb b 48 && eqb (length bs) 0) (eqb b 45 && is_positive bs) w) [
    | inl w ↦ let t = and_parts (eqb b 48) (eqb (length bs) 0) w in rw (eqb-true b 48 t.0, empty_printed bs (eqb-true (length bs) 0 t.1)) refl
    | inr w ↦ let t = and_parts (eqb b 45) (is_positive bs) w in rw (eqb-true b 45 t.0, positive_printed bs t.1) refl
  ]
  | inr w ↦ positive_printed (b ∷ bs) w
]

marked_printed : (w : List ℕ) → is_marked_name w ≡ true → list_all is_printed w ≡ true
marked_printed [] h = absurd cc
marked_printed (b ∷ bs) h =
    let t = and_parts (eqb b 37 || eqb b 64) (is_name bs) h in
    elim (or_cases (eqb b 37) (eqb b 64) t.0) [
      | inl w ↦ rw (eqb-true b 37 w, name_printed bs t.1) refl
      | inr w ↦ rw (eqb-true b 64 w, name_printed bs t.1) refl
    ]

mark_small : (b : ℕ) → is_mark b ≡ true → b < 128
mark_small b h = elim (or_cases (eqb b 61 || eqb b 44 || eqb b 40 || eqb b 41 || eqb b 91 || eqb b 93 || eqb b 123 || eqb b 125) (eqb b 58) h) [
  | inl w ↦ grind (arith, nat_tests)
  | inr w ↦ grind (arith, nat_tests)
]

marks_small : (w : List ℕ) → list_all is_mark w ≡ true → AllByRecursion (λ b. b < 128) w
marks_small [] h = tt
marks_small (b ∷ w) h = let t = and_parts (is_mark b) (list_all is_mark w) h in (mark_small b t.0, marks_small w t.1)

-- the bytes of each token are ASCII
pub token_ascii : (kind : Kind) (text : List ℕ) → HasKind kind text → IsAscii text
token_ascii Name text h = printed_ascii text (marked_printed text h)
token_ascii Number text h = printed_ascii text (number_printed text h)
token_ascii Word text h = printed_ascii text h
token_ascii Mark text h = IsAscii-from_all text (All-from_recursion (λ b. b < 128) text (marks_small text h.1))
token_ascii Note text h = subst IsAscii (sym h) (IsAscii-from_all (codes ";!") (All-from_recursion (λ b. b < 128) (codes ";!") (omega arith, (omega arith, tt))))

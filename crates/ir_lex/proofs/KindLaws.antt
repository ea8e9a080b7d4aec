-- Of which kind names, numbers and marks are, and how they go on.
use Rattle.std.proofs.Common.{◌≡◌, ℕ, ◌≤◌, inl, inr, Bool, true, false, cond, eqb, leb, List, [], ◌∷◌, length, Some, None, refl, ap, ◌∙◌, arith}
use Rattle.std.specs.Prelude.{◌&&◌, ◌||◌}
use Rattle.std.specs.Char.{is_ascii_digit}
use Rattle.std.specs.List.{list_all}
use Rattle.std.proofs.lemmas.Bool.{eqb-true, leb-true, or_right, and_parts, or_cases}
use Rattle.std.proofs.lemmas.Bool.Decides.{nat_tests}
use Rattle.ir_lex.specs.declared.token.Kind.TheVariants.{Name, Number}
use Rattle.ir_lex.specs.Spelling.{is_space, is_mark, is_run_byte, begins_name, continues_name, is_name, is_positive, is_number, is_marked_name, kind_of}
use Rattle.ir_lex.proofs.Names.{byte_runs, name_runs}

-- marks

by_mark : (p : ℕ → Bool) (wanted : Bool) (b : ℕ) → is_mark b ≡ true
    → p 61 ≡ wanted → p 44 ≡ wanted → p 40 ≡ wanted → p 41 ≡ wanted → p 91 ≡ wanted → p 93 ≡ wanted → p 123 ≡ wanted → p 125 ≡ wanted → p 58 ≡ wanted → p b ≡ wanted
by_mark p wanted b h e1 e2 e3 e4 e5 e6 e7 e8 e9 =
    elim (or_cases (eqb b 61 || eqb b 44 || eqb b 40 || eqb b 41 || eqb b 91 || eqb b 93 || eqb b 123 || eqb b 125) (eqb b 58) h) [
      | inr w ↦ ap p (eqb-true b 58 w) ∙ e9
      | inl w ↦ elim (or_cases (eqb b 61 || eqb b 44 || eqb b 40 || eqb b 41 || eqb b 91 || eqb b 93 || eqb b 123) (eqb b 125) w) [
        | inr w ↦ ap p (eqb-true b 125 w) ∙ e8
        | inl w ↦ elim (or_cases (eqb b 61 || eqb b 44 || eqb b 40 || eqb b 41 || eqb b 91 || eqb b 93) (eqb b 123) w) [
          | inr w ↦ ap p (eqb-true b 123 w) ∙ e7
          | inl w ↦ elim (or_cases (eqb b 61 || eqb b 44 || eqb b 40 || eqb b 41 || eqb b 91) (eqb b 93) w) [
            | inr w ↦ ap p (eqb-true b 93 w) ∙ e6
            | inl w ↦ elim (or_cases (eqb b 61 || eqb b 44 || eqb b 40 || eqb b 41) (eqb b 91) w) [
              | inr w ↦ ap p (eqb-true b 91 w) ∙ e5
              | inl w ↦ elim (or_cases (eqb b 61 || eqb b 44 || eqb b 40) (eqb b 41) w) [
                | inr w ↦ ap p (eqb-true b 41 w) ∙ e4
                | inl w ↦ elim (or_cases (eqb b 61 || eqb b 44) (eqb b 40) w) [
                  | inr w ↦ ap p (eqb-true b 40 w) ∙ e3
                  | inl w ↦ elim (or_cases (eqb b 61) (eqb b 44) w) [
                    | inr w ↦ ap p (eqb-true b 44 w) ∙ e2
                    | inl w ↦ ap p (eqb-true b 61 w) ∙ e1
                  ]
                ]
              ]
            ]
          ]
        ]
      ]
    ]

pub mark_is_no_space : (b : ℕ) → is_mark b ≡ true → is_space b ≡ false
mark_is_no_space b h = by_mark is_space false b h refl refl refl refl refl refl refl refl refl

pub mark_is_no_run : (b : ℕ) → is_mark b ≡ true → is_run_byte b ≡ false
mark_is_no_run b h = by_mark is_run_byte false b h refl refl refl refl refl refl refl refl refl

-- names behind a sigil

no_name : (b : ℕ) (bs : List ℕ) → begins_name b ≡ false → is_name (b ∷ bs) ≡ false
no_name b bs h = rw h refl

kind_of_other : (w : List ℕ) (number marked : Bool) → is_name w ≡ false → is_number w ≡ number → is_marked_name w ≡ marked
    → kind_of w ≡ cond number (Some Number) (cond marked (Some Name) None)
kind_of_other w number marked a b c = rw (a, b, c) refl

pub sigil_kind : (b : ℕ) (name : List ℕ) → (eqb b 37 || eqb b 64) ≡ true → is_name name ≡ true → (kind_of (b ∷ name) ≡ Some Name) × (list_all is_run_byte (b ∷ name) ≡ true)
sigil_kind b name sigil h = elim (or_cases (eqb b 37) (eqb b 64) sigil) [
  | inl w ↦ rw (eqb-true b 37 w) (kind_of_other (37 ∷ name) false true refl refl h, name_runs name h)
  | inr w ↦ rw (eqb-true b 64 w) (kind_of_other (64 ∷ name) false true refl refl h, name_runs name h)
]

-- numbers

digit_continues : (b : ℕ) → is_ascii_digit b ≡ true → continues_name b ≡ true
digit_continues b h = or_right (begins_name b) (is_ascii_digit b) h

digits_run : (bs : List ℕ) → list_all is_ascii_digit bs ≡ true → list_all is_run_byte bs ≡ true
digits_run [] h = refl
digits_run (b ∷ bs) h = let t = and_parts (is_ascii_digit b) (list_all is_ascii_digit bs) h in rw (byte_runs b (digit_continues b t.0), digits_run bs t.1) refl

first_digit : (b : ℕ) → (leb 49 b && leb b 57) ≡ true → is_ascii_digit b ≡ true
first_digit b h =
    let r = and_parts (leb 49 b) (leb b 57) h in
    let low : leb 48 b ≡ true = grind (arith, nat_tests) in
    rw (low, r.1) refl

positive_runs : (w : List ℕ) → is_positive w ≡ true → list_all is_run_byte w ≡ true
positive_runs [] h = absurd cc
positive_runs (b ∷ bs) h =
    let t = and_parts (leb 49 b && leb b 57) (list_all is_ascii_digit bs) h in
    rw (byte_runs b (digit_continues b (first_digit b t.0)), digits_run bs t.1) refl

nothing_runs : (bs : List ℕ) → length bs ≡ 0 → list_all is_run_byte bs ≡ true
nothing_runs [] h = refl
nothing_runs (b ∷ bs) h = absurd (omega arith)

pub number_runs : (w : List ℕ) → is_number w ≡ true → list_all is_run_byte w ≡ true
number_runs [] h = absurd cc
number_runs (b ∷ bs) h = elim (or_cases (eqb b 48 && eqb (length bs) 0 || eqb b 45 && is_positive bs) (is_positive (b ∷ bs)) h) [
  | inl w ↦ elim (or_cases (eqb b 48 && eqb (length bs) 0) (eqb b 45 && is_positive bs) w) [
    | inl w ↦ let t = and_parts (eqb b 48) (eqb (length bs) 0) w in rw (eqb-true b 48 t.0, nothing_runs bs (eqb-true (length bs) 0 t.1)) refl
    | inr w ↦ let t = and_parts (eqb b 45) (is_positive bs) w in rw (eqb-true b 45 t.0, positive_runs bs t.1) refl
  ]
  | inr w ↦ positive_runs (b ∷ bs) w
]

-- a digit begins no name
digit_begins_none : (b : ℕ) → 48 ≤ b → b ≤ 57 → begins_name b ≡ false
digit_begins_none b low high =
    let a : leb 65 b ≡ false = grind (arith, nat_tests) in
    let c : leb 97 b ≡ false = grind (arith, nat_tests) in
    let d : eqb b 95 ≡ false = grind (arith, nat_tests) in
    let e : eqb b 46 ≡ false = grind (arith, nat_tests) in
    rw (a, c, d, e) refl

number_begins : (b : ℕ) (bs : List ℕ) → is_number (b ∷ bs) ≡ true → begins_name b ≡ false
number_begins b bs h = elim (or_cases (eqb b 48 && eqb (length bs) 0 || eqb b 45 && is_positive bs) (is_positive (b ∷ bs)) h) [
  | inl w ↦ elim (or_cases (eqb b 48 && eqb (length bs) 0) (eqb b 45 && is_positive bs) w) [
    | inl w ↦ let t = and_parts (eqb b 48) (eqb (length bs) 0) w in rw (eqb-true b 48 t.0) refl
    | inr w ↦ let t = and_parts (eqb b 45) (is_positive bs) w in rw (eqb-true b 45 t.0) refl
  ]
  | inr w ↦
      let t = and_parts (leb 49 b && leb b 57) (list_all is_ascii_digit bs) w in
      let r = and_parts (leb 49 b) (leb b 57) t.0 in
      let low : 49 ≤ b = leb-true 49 b r.0 in
      digit_begins_none b (omega arith) (leb-true b 57 r.1)
]

pub number_kind : (w : List ℕ) → is_number w ≡ true → kind_of w ≡ Some Number
number_kind [] h = absurd cc
number_kind (b ∷ bs) h = kind_of_other (b ∷ bs) true (is_marked_name (b ∷ bs)) (no_name b bs (number_begins b bs h)) h refl

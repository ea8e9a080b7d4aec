-- A form that is spelled is read back.
use Rattle.std.proofs.Common.{◌≡◌, ℕ, suc, ◌^◌, ◌<◌, ◌≤◌, inl, inr, Bool, true, false, cond, eqb, ltb, List, [], ◌∷◌, ◌++◌, length, get_or, Option, Some, None, Result, Ok, Err, refl, sym, subst, ap, ◌∙◌, arith, append_assoc, append-nil, length-append}
use Rattle.std.specs.Prelude.{ℤ, pos, negsuc, unsigned_abs, int_lt, All, ◌&&◌, nat_le, codes, flat_map}
use Rattle.std.specs.Char.{is_ascii_digit}
use Rattle.std.specs.List.{list_all}
use Rattle.std.specs.Str.{all_ascii_digits}
use Rattle.std.specs.Str.Parse.{digits_value}
use Rattle.std.specs.Fmt.{decimal, signed_decimal}
use Rattle.std.proofs.lemmas.Bool.{ltb-true, lt-ltb, le-leb, cases_eq, and_from, or_right, or_left, and_parts}
use Rattle.std.proofs.lemmas.Bool.Decides.{nat_tests}
use Rattle.std.proofs.lemmas.Fmt.{decimal_digit, digits_value-decimal, first_decimal, decimal_nonempty}
use Rattle.std.proofs.lemmas.List.Elements.{All-head, All-tail}
use Rattle.std.proofs.lemmas.List.Folds.{list_all-append}
use Rattle.syntax.specs.declared.annotation.Term.{Term}
use Rattle.ir_annotation.specs.declared.limits.Limited.{Limited}
use Rattle.ir_annotation.specs.Bounds.{is_no_sign}
use Rattle.ir_annotation.specs.Canonical.{IsTerm}
use Rattle.ir_annotation.specs.Limits.{within, past_limit, up_to}
use Rattle.ir_lex.specs.Spelling.{begins_name, continues_name, is_name}
use Rattle.ir_lex.specs.Numerals.{is_numeral, small_value}
use Rattle.ir_annotation.specs.Words.{number_of, name_of}
use Rattle.ir_annotation.specs.Forms.{SignedText, Cut, as_signed, cut_of, signed_texts, signed, is_no_star}
use Rattle.ir_annotation.specs.Spelling.{sign_text, factor_text, term_text, constant_text, terms_text}
use Rattle.ir_annotation.proofs.Adding.{plain_here}
use Rattle.ir_lex.proofs.Digits.{own, digits_listed, decimal_digits}
use Rattle.ir_lex.proofs.Names.{by_test, differs}

-- ---- bytes

name_byte : (b : ℕ) → continues_name b ≡ true → is_no_sign b ≡ true
name_byte b h = rw (differs continues_name b 43 h refl, differs continues_name b 45 h refl) refl

name_bytes : (bs : List ℕ) → list_all continues_name bs ≡ true → list_all is_no_sign bs ≡ true
name_bytes [] h = refl
name_bytes (b ∷ bs) h = let t = and_parts (continues_name b) (list_all continues_name bs) h in and_from (is_no_sign b) (list_all is_no_sign bs) (name_byte b t.0) (name_bytes bs t.1)

name_plain : (name : List ℕ) → is_name name ≡ true → list_all is_no_sign name ≡ true
name_plain [] h = absurd cc
name_plain (b ∷ bs) h =
    let t = and_parts (begins_name b) (list_all continues_name bs) h in
    and_from (is_no_sign b) (list_all is_no_sign bs) (name_byte b (or_left (begins_name b) (is_ascii_digit b) t.0)) (name_bytes bs t.1)

digit_byte : (b : ℕ) → is_ascii_digit b ≡ true → is_no_sign b ≡ true
digit_byte b h = rw (differs is_ascii_digit b 43 h refl, differs is_ascii_digit b 45 h refl) refl

digits_plain : (ds : List ℕ) → all_ascii_digits ds ≡ true → list_all is_no_sign ds ≡ true
digits_plain [] h = refl
digits_plain (b ∷ bs) h = let t = and_parts (is_ascii_digit b) (all_ascii_digits bs) h in and_from (is_no_sign b) (list_all is_no_sign bs) (digit_byte b t.0) (digits_plain bs t.1)

no_star_byte : (b : ℕ) → is_ascii_digit b ≡ true → is_no_star b ≡ true
no_star_byte b h = rw (differs is_ascii_digit b 42 h refl) refl

pub digits_no_star : (ds : List ℕ) → all_ascii_digits ds ≡ true → list_all is_no_star ds ≡ true
digits_no_star [] h = refl
digits_no_star (b ∷ bs) h = let t = and_parts (is_ascii_digit b) (all_ascii_digits bs) h in and_from (is_no_star b) (list_all is_no_star bs) (no_star_byte b t.0) (digits_no_star bs t.1)

-- ---- numbers

numeral_by : (ds : List ℕ) → all_ascii_digits ds ≡ true → 48 < get_or ds 0 0 → is_numeral ds ≡ true
numeral_by [] h first = absurd (omega arith)
numeral_by (b ∷ bs) h first =
    let t = and_parts (is_ascii_digit b) (all_ascii_digits bs) h in
    let digit = t.0 in
    let low : nat_le 49 b ≡ true = le-leb 49 b first in
    let high : nat_le b 57 ≡ true = grind (arith, nat_tests) in
    or_right (eqb b 48 && eqb (length bs) 0) ((nat_le 49 b && nat_le b 57) && list_all is_ascii_digit bs)
    (and_from (nat_le 49 b && nat_le b 57) (list_all is_ascii_digit bs) (and_from (nat_le 49 b) (nat_le b 57) low high) (digits_listed bs t.1))

pub numeral_decimal : (n : ℕ) → n < 2 ^ 63 → is_numeral (decimal n) ≡ true
numeral_decimal n h = elim (cases_eq n 0) [
  | inl e ↦ ap (λ (k : ℕ). is_numeral (decimal k)) e ∙ ap is_numeral (decimal_digit 0 (omega arith))
  | inr ne ↦ numeral_by (decimal n) (decimal_digits n h) (first_decimal n (omega (arith, ne)) (omega arith))
]

pub small_again : (n : ℕ) → n < 2 ^ 63 → small_value (decimal n) ≡ Some n
small_again n h =
    let value : digits_value 10 (decimal n) ≡ n = digits_value-decimal own n (omega arith) in
    let small : n < 2 ^ 64 = omega arith in
    ap (λ (x : ℕ). cond (ltb x (2 ^ 64)) (Some x) None) value ∙ ap (λ (b : Bool). cond b (Some n) None) (lt-ltb n (2 ^ 64) small)

pub number_again : (n : ℕ) → n < 2 ^ 63 → number_of 9223372036854775807 (decimal n) ≡ Ok (within n)
unfolding number_of
number_again n h =
    ap (λ (b : Bool). cond b (let r : Result (Limited ℕ) ℕ = Ok (up_to 9223372036854775807 (small_value (decimal n))) in r) (Err 103)) (numeral_decimal n h)
    ∙ ap (λ (o : Option ℕ). let r : Result (Limited ℕ) ℕ = Ok (up_to 9223372036854775807 o) in r) (small_again n h)
    ∙ ap (λ (b : Bool). let r : Result (Limited ℕ) ℕ = Ok (cond b (within n) (past_limit 0)) in r) (le-leb n 9223372036854775807 (omega arith))

pub name_again : (name : List ℕ) → is_name name ≡ true → length name ≤ 64 → name_of name ≡ Ok (within name)
unfolding name_of
name_again name h short =
    ap (λ (b : Bool). cond b (let r : Result (Limited (List ℕ)) ℕ = Ok (record { value = name; is_within_limits = nat_le (length name) 64 }) in r) (Err 103)) h
    ∙ ap (λ (b : Bool). let r : Result (Limited (List ℕ)) ℕ = Ok (record { value = name; is_within_limits = b }) in r) (le-leb (length name) 64 short)

-- ---- signs

abbrev pub is_minus : ℤ → Bool
is_minus z = int_lt z (pos 0)

no_less : (n : ℕ) → ltb n 0 ≡ false
no_less n = by_test (ltb n 0) (λ (h : ltb n 0 ≡ true). let l : n < 0 = ltb-true n 0 h in absurd (omega arith)) (λ (h : ltb n 0 ≡ false). h)

pub signed_size : (z : ℤ) → signed (is_minus z) (unsigned_abs z) ≡ z
signed_size (pos n) = ap (λ (b : Bool). signed b n) (no_less n)
signed_size (negsuc n) = refl

-- ---- the text of a term behind its sign

abbrev pub body : Term → List ℕ
body t = factor_text (unsigned_abs t.coefficient) ++ (37 ∷ t.register)

plain_append : (xs ys : List ℕ) → list_all is_no_sign xs ≡ true → list_all is_no_sign ys ≡ true → list_all is_no_sign (xs ++ ys) ≡ true
plain_append xs ys hx hy = list_all-append is_no_sign xs ys ∙ and_from (list_all is_no_sign xs) (list_all is_no_sign ys) hx hy

factor_plain : (n : ℕ) → n < 2 ^ 63 → list_all is_no_sign (factor_text n) ≡ true
factor_plain n h =
    elim (eqb n 1) as (λ v. list_all is_no_sign (cond v [] (decimal n ++ codes "*")) ≡ true) [
      | true ↦ refl
      | false ↦ plain_append (decimal n) (codes "*") (digits_plain (decimal n) (decimal_digits n h)) refl
    ]

body_plain : (t : Term) → IsTerm t → list_all is_no_sign (body t) ≡ true
body_plain t is = plain_append (factor_text (unsigned_abs t.coefficient)) (37 ∷ t.register) (factor_plain (unsigned_abs t.coefficient) is.fits) (name_plain t.register is.name)

term_text_is : (is_first : Bool) (t : Term) → term_text is_first t ≡ sign_text is_first t.coefficient ++ body t
term_text_is is_first t =
    let s : List ℕ = sign_text is_first t.coefficient in
    let f : List ℕ = factor_text (unsigned_abs t.coefficient) in
    append_assoc (s ++ f) (37 ∷ []) t.register ∙ append_assoc s f (37 ∷ t.register)

-- ---- cutting what is spelled

abbrev cut_from : List ℕ → List SignedText → Cut
cut_from first rest = record { first = first; rest = rest }

abbrev pub one_text : Bool → List ℕ → SignedText
one_text is_negative text = record { is_negative = is_negative; text = text }

cut_plain : (ws rest : List ℕ) → list_all is_no_sign ws ≡ true → cut_of (ws ++ rest) ≡ cut_from (ws ++ (cut_of rest).first) (cut_of rest).rest
unfolding cut_of
cut_plain [] rest h = refl
cut_plain (b ∷ ws) rest h =
    let t = and_parts (is_no_sign b) (list_all is_no_sign ws) h in
    plain_here b (cut_of (ws ++ rest)) t.0 ∙ ap (λ (c : Cut). cut_from (b ∷ c.first) c.rest) (cut_plain ws rest t.1)

cut_whole : (ws : List ℕ) → list_all is_no_sign ws ≡ true → cut_of ws ≡ cut_from ws []
unfolding cut_of
cut_whole ws h = subst (λ (l : List ℕ). cut_of l ≡ cut_from l []) (append-nil ws) (cut_plain ws [] h)

cut_sign : (z : ℤ) (rest : List ℕ) → cut_of (sign_text false z ++ rest) ≡ cut_from [] (as_signed (is_minus z) (cut_of rest))
unfolding cut_of
cut_sign z rest =
    elim (is_minus z) as (λ v. cut_of (cond v (codes "-") (codes "+") ++ rest) ≡ cut_from [] (as_signed v (cut_of rest))) [
      | true ↦ refl
      | false ↦ refl
    ]

abbrev pub constant_texts : ℤ → List SignedText
constant_texts z = cond (eqb (unsigned_abs z) 0) [] (one_text (is_minus z) (decimal (unsigned_abs z)) ∷ [])

abbrev pub texts : List Term → ℤ → List SignedText
texts [] z = constant_texts z
texts (t ∷ ts) z = one_text (is_minus t.coefficient) (body t) ∷ texts ts z

constant_cut : (z : ℤ) → unsigned_abs z < 2 ^ 63 → cut_of (constant_text z) ≡ cut_from [] (constant_texts z)
unfolding cut_of
constant_cut z h =
    elim (eqb (unsigned_abs z) 0) as (λ v. cut_of (cond v [] (sign_text false z ++ decimal (unsigned_abs z))) ≡ cut_from [] (cond v [] (one_text (is_minus z) (decimal (unsigned_abs z)) ∷ []))) [
      | true ↦ refl
      | false ↦ cut_sign z (decimal (unsigned_abs z)) ∙ ap (λ (c : Cut). cut_from [] (as_signed (is_minus z) c)) (cut_whole (decimal (unsigned_abs z)) (digits_plain (decimal (unsigned_abs z)) (decimal_digits (unsigned_abs z) h)))
    ]

-- the text behind a term
abbrev tail_text : List Term → ℤ → List ℕ
tail_text ts z = flat_map (term_text false) ts ++ constant_text z

body_cut : (t : Term) (rest : List ℕ) (more : List SignedText) → IsTerm t → cut_of rest ≡ cut_from [] more → cut_of (body t ++ rest) ≡ cut_from (body t) more
body_cut t rest more is e =
    cut_plain (body t) rest (body_plain t is) ∙ ap (λ (c : Cut). cut_from (body t ++ c.first) c.rest) e ∙ ap (λ (l : List ℕ). cut_from l more) (append-nil (body t))

tail_cut : (ts : List Term) (z : ℤ) → All IsTerm ts → unsigned_abs z < 2 ^ 63 → cut_of (tail_text ts z) ≡ cut_from [] (texts ts z)
tail_cut [] z are h = constant_cut z h
tail_cut (t ∷ ts) z are h =
    let is : IsTerm t = All-head IsTerm t ts are in
    let rest = tail_cut ts z (All-tail IsTerm t ts are) h in
    let split : tail_text (t ∷ ts) z ≡ sign_text false t.coefficient ++ (body t ++ tail_text ts z) =
    append_assoc (term_text false t) (flat_map (term_text false) ts) (constant_text z)
    ∙ ap (λ (l : List ℕ). l ++ tail_text ts z) (term_text_is false t)
    ∙ append_assoc (sign_text false t.coefficient) (body t) (tail_text ts z) in
    ap cut_of split ∙ cut_sign t.coefficient (body t ++ tail_text ts z) ∙ ap (λ (c : Cut). cut_from [] (as_signed (is_minus t.coefficient) c)) (body_cut t (tail_text ts z) (texts ts z) is rest)

no_minus : (b : ℕ) → is_no_sign b ≡ true → eqb b 45 ≡ false
no_minus b h = differs is_no_sign b 45 h refl

plain_first : (ws : List ℕ) → 0 < length ws → list_all is_no_sign ws ≡ true → (rest : List ℕ) → signed_texts (ws ++ rest) ≡ as_signed false (cut_of (ws ++ rest))
plain_first [] some h rest = absurd (omega arith)
plain_first (b ∷ ws) some h rest =
    let t = and_parts (is_no_sign b) (list_all is_no_sign ws) h in
    ap (λ (v : Bool). cond v (as_signed true (cut_of (ws ++ rest))) (as_signed false (cut_of (b ∷ (ws ++ rest))))) (no_minus b t.0)

body_some : (t : Term) → 0 < length (body t)
body_some t = rw (length-append (factor_text (unsigned_abs t.coefficient)) (37 ∷ t.register)) (omega arith)

pub first_texts : (t : Term) (ts : List Term) (z : ℤ) → All IsTerm (t ∷ ts) → unsigned_abs z < 2 ^ 63 → signed_texts (terms_text (t ∷ ts) z) ≡ texts (t ∷ ts) z
first_texts t ts z are h =
    let is : IsTerm t = All-head IsTerm t ts are in
    let rest : cut_of (tail_text ts z) ≡ cut_from [] (texts ts z) = tail_cut ts z (All-tail IsTerm t ts are) h in
    let more : List ℕ = body t ++ tail_text ts z in
    let split : terms_text (t ∷ ts) z ≡ sign_text true t.coefficient ++ more =
    append_assoc (term_text true t) (flat_map (term_text false) ts) (constant_text z)
    ∙ ap (λ (l : List ℕ). l ++ tail_text ts z) (term_text_is true t)
    ∙ append_assoc (sign_text true t.coefficient) (body t) (tail_text ts z) in
    let cut : cut_of more ≡ cut_from (body t) (texts ts z) = body_cut t (tail_text ts z) (texts ts z) is rest in
    let read : signed_texts (sign_text true t.coefficient ++ more) ≡ as_signed (is_minus t.coefficient) (cut_of more) =
    elim (is_minus t.coefficient) as (λ v. signed_texts (cond v (codes "-") [] ++ more) ≡ as_signed v (cut_of more)) [
      | true ↦ refl
      | false ↦ plain_first (body t) (body_some t) (body_plain t is) (tail_text ts z)
    ] in
    ap signed_texts split ∙ read ∙ ap (as_signed (is_minus t.coefficient)) cut

pub constant_first : (z : ℤ) → unsigned_abs z < 2 ^ 63 → signed_texts (signed_decimal z) ≡ one_text (is_minus z) (decimal (unsigned_abs z)) ∷ []
constant_first (pos n) h =
    let plain = digits_plain (decimal n) (decimal_digits n h) in
    let some : 0 < length (decimal n) = decimal_nonempty n (omega arith) in
    let at_end : signed_texts (decimal n) ≡ as_signed false (cut_of (decimal n)) = subst (λ (l : List ℕ). signed_texts l ≡ as_signed false (cut_of l)) (append-nil (decimal n)) (plain_first (decimal n) some plain []) in
    at_end ∙ ap (as_signed false) (cut_whole (decimal n) plain) ∙ ap (λ (b : Bool). one_text b (decimal n) ∷ []) (sym (no_less n))
constant_first (negsuc n) h = ap (as_signed true) (cut_whole (decimal (suc n)) (digits_plain (decimal (suc n)) (decimal_digits (suc n) h)))

-- The terms of a spelled form, read and added up, are the form's.
use Rattle.std.proofs.Common.{◌≡◌, ℕ, suc, ◌+◌, ◌^◌, ◌<◌, Bool, true, false, cond, eqb, leb, List, [], ◌∷◌, ◌++◌, length, take, drop, map, Option, Some, None, Result, Ok, refl, sym, subst, ap, ◌∙◌, arith, append_assoc, append-nil}
use Rattle.std.proofs.Math.Seq.{take-append_seam, drop-append_seam}
use Rattle.std.specs.Prelude.{ℤ, pos, negsuc, ◌+ℤ◌, unsigned_abs, All, ◌&&◌, codes, slice_set, slice_index_or, insert}
use Rattle.std.specs.Char.{is_ascii_digit}
use Rattle.std.specs.List.{prefix_len, list_all, filter_map, cons_option}
use Rattle.std.specs.Str.{all_ascii_digits}
use Rattle.std.specs.Fmt.{decimal}
use Rattle.std.proofs.lemmas.Int.{ints}
use Rattle.std.proofs.lemmas.Bool.{eqb-true, le-leb, and_from, and_parts}
use Rattle.std.proofs.lemmas.Fmt.{decimal_nonempty}
use Rattle.std.proofs.lemmas.List.{take_all, drop_all}
use Rattle.std.proofs.lemmas.List.Elements.{All-head, All-tail}
use Rattle.std.proofs.lemmas.List.Folds.{list_all-append}
use Rattle.std.proofs.lemmas.Option.{slice_get_past}
use Rattle.syntax.specs.declared.annotation.Term.{Term}
use Rattle.syntax.specs.declared.annotation.Form.{Form}
use Rattle.ir_annotation.specs.declared.limits.Limited.{Limited}
use Rattle.ir_annotation.specs.declared.sums.SumTerm.{SumTerm}
use Rattle.ir_annotation.specs.declared.sums.SignedTerm.{SignedTerm}
use Rattle.ir_annotation.specs.Canonical.{is_earlier, AreRising, IsTerm, IsCanonical}
use Rattle.ir_annotation.specs.Limits.{within, past_limit, fits_form, narrowed}
use Rattle.ir_annotation.specs.Reading.{◌>>=◌}
use Rattle.ir_annotation.specs.Words.{number_of, name_of}
use Rattle.ir_annotation.specs.Forms.{SignedText, signed_texts, signed, term_behind, is_no_star, term_by_number, term_of, Total, is_before, has_name, is_at, with_more, added, plus, all_added, nothing, kept, is_narrow, form_from, form_of}
use Rattle.ir_annotation.specs.Spelling.{terms_text, form_text}
use Rattle.ir_lex.proofs.Digits.{decimal_digits}
use Rattle.ir_annotation.proofs.Again.{digits_no_star, number_again, name_again, is_minus, signed_size, body, one_text, constant_texts, texts, first_texts, constant_first}
use Rattle.ir_lex.proofs.Names.{differs}

-- ---- a term is read

abbrev term_read : Option (List ℕ) → ℤ → Limited SignedTerm
term_read register amount = within (record { register = register; amount = amount })

prefix_at : (p : ℕ → Bool) (ds rest : List ℕ) → list_all p ds ≡ true → prefix_len p rest ≡ 0 → prefix_len p (ds ++ rest) ≡ length ds
prefix_at p [] rest h stop = stop
prefix_at p (b ∷ ds) rest h stop =
    let t = and_parts (p b) (list_all p ds) h in
    let one : (n : ℕ) → 1 + n ≡ suc n = λ n. omega arith in
    ap (λ (v : Bool). cond v (1 + prefix_len p (ds ++ rest)) 0) t.0 ∙ ap (λ (n : ℕ). 1 + n) (prefix_at p ds rest t.1 stop) ∙ one (length ds)

by_number : (is_negative : Bool) (n : ℕ) (rest : List ℕ) → n < 2 ^ 63 → prefix_len is_no_star rest ≡ 0 → term_by_number is_negative (decimal n ++ rest) ≡ term_behind is_negative (within n) rest
by_number is_negative n rest h stop =
    let text : List ℕ = decimal n ++ rest in
    let at : ℕ → Result (Limited SignedTerm) ℕ = λ k. number_of 9223372036854775807 (take k text) >>= λ number. term_behind is_negative number (drop k text) in
    let end : prefix_len is_no_star text ≡ length (decimal n) = prefix_at is_no_star (decimal n) rest (digits_no_star (decimal n) (decimal_digits n h)) stop in
    ap at end
    ∙ ap (λ (ds : List ℕ). number_of 9223372036854775807 ds >>= λ number. term_behind is_negative number (drop (length (decimal n)) text)) (take-append_seam (decimal n) rest)
    ∙ ap (λ (more : List ℕ). number_of 9223372036854775807 (decimal n) >>= λ number. term_behind is_negative number more) (drop-append_seam (decimal n) rest)
    ∙ ap (λ (r : Result (Limited ℕ) ℕ). r >>= λ number. term_behind is_negative number rest) (number_again n h)

digit_first : (is_negative : Bool) (ds rest : List ℕ) → all_ascii_digits ds ≡ true → 0 < length ds → term_of is_negative (ds ++ rest) ≡ term_by_number is_negative (ds ++ rest)
unfolding term_of
digit_first is_negative [] rest h some = absurd (omega arith)
digit_first is_negative (b ∷ ds) rest h some =
    let t = and_parts (is_ascii_digit b) (all_ascii_digits ds) h in
    ap (λ (v : Bool). cond v (name_of (ds ++ rest) >>= λ name. let r : Result (Limited SignedTerm) ℕ = Ok (record { value = record { register = Some name.value; amount = signed is_negative 1 }; is_within_limits = name.is_within_limits }) in r) (term_by_number is_negative (b ∷ (ds ++ rest)))) (differs is_ascii_digit b 37 t.0 refl)

number_read : (is_negative : Bool) (n : ℕ) (rest : List ℕ) → n < 2 ^ 63 → prefix_len is_no_star rest ≡ 0 → term_of is_negative (decimal n ++ rest) ≡ term_behind is_negative (within n) rest
number_read is_negative n rest h stop = digit_first is_negative (decimal n) rest (decimal_digits n h) (decimal_nonempty n (omega arith)) ∙ by_number is_negative n rest h stop

constant_read : (is_negative : Bool) (n : ℕ) → n < 2 ^ 63 → term_of is_negative (decimal n) ≡ Ok (term_read None (signed is_negative n))
constant_read is_negative n h = subst (λ (l : List ℕ). term_of is_negative l ≡ Ok (term_read None (signed is_negative n))) (append-nil (decimal n)) (number_read is_negative n [] h refl)

lone_read : (is_negative : Bool) (name : List ℕ) → name_of name ≡ Ok (within name) → term_of is_negative (37 ∷ name) ≡ Ok (term_read (Some name) (signed is_negative 1))
unfolding term_of
lone_read is_negative name h = ap (λ (r : Result (Limited (List ℕ)) ℕ). r >>= λ name. let r : Result (Limited SignedTerm) ℕ = Ok (record { value = record { register = Some name.value; amount = signed is_negative 1 }; is_within_limits = name.is_within_limits }) in r) h

times_read : (is_negative : Bool) (n : ℕ) (name : List ℕ) → n < 2 ^ 63 → name_of name ≡ Ok (within name) → term_of is_negative ((decimal n ++ codes "*") ++ (37 ∷ name)) ≡ Ok (term_read (Some name) (signed is_negative n))
times_read is_negative n name h again =
    ap (term_of is_negative) (append_assoc (decimal n) (42 ∷ []) (37 ∷ name))
    ∙ number_read is_negative n (42 ∷ 37 ∷ name) h refl
    ∙ ap (λ (r : Result (Limited (List ℕ)) ℕ). r >>= λ name. let r : Result (Limited SignedTerm) ℕ = Ok (record { value = record { register = Some name.value; amount = signed is_negative n }; is_within_limits = true && name.is_within_limits }) in r) again

body_read : (is_negative : Bool) (n : ℕ) (name : List ℕ) → n < 2 ^ 63 → name_of name ≡ Ok (within name) →
    term_of is_negative (cond (eqb n 1) [] (decimal n ++ codes "*") ++ (37 ∷ name)) ≡ Ok (term_read (Some name) (signed is_negative n))
body_read is_negative n name h again =
    elim (eqb n 1) as (λ v. eqb n 1 ≡ v → term_of is_negative (cond v [] (decimal n ++ codes "*") ++ (37 ∷ name)) ≡ Ok (term_read (Some name) (signed is_negative n))) [
      | true ↦ λ (e : eqb n 1 ≡ true). lone_read is_negative name again ∙ ap (λ (k : ℕ). let r : Result (Limited SignedTerm) ℕ = Ok (term_read (Some name) (signed is_negative k)) in r) (sym (eqb-true n 1 e))
      | false ↦ λ (e : eqb n 1 ≡ false). times_read is_negative n name h again
    ] refl

term_again : (t : Term) → IsTerm t → term_of (is_minus t.coefficient) (body t) ≡ Ok (term_read (Some t.register) t.coefficient)
term_again t is =
    body_read (is_minus t.coefficient) (unsigned_abs t.coefficient) t.register is.fits (name_again t.register is.name is.short)
    ∙ ap (λ (z : ℤ). let r : Result (Limited SignedTerm) ℕ = Ok (term_read (Some t.register) z) in r) (signed_size t.coefficient)

-- ---- terms are added at the end

prefix_all : (p : SumTerm → Bool) (ts : List SumTerm) → list_all p ts ≡ true → prefix_len p ts ≡ length ts
prefix_all p [] h = refl
prefix_all p (t ∷ ts) h =
    let b = and_parts (p t) (list_all p ts) h in
    let one : (n : ℕ) → 1 + n ≡ suc n = λ n. omega arith in
    ap (λ (v : Bool). cond v (1 + prefix_len p ts) 0) b.0 ∙ ap (λ (n : ℕ). 1 + n) (prefix_all p ts b.1) ∙ one (length ts)

abbrev sum_term : Term → SumTerm
sum_term t = record { register = t.register; coefficient = t.coefficient }

added_last : (done : List SumTerm) (t : Term) → list_all (is_before t.register) done ≡ true → added done t.register t.coefficient ≡ done ++ sum_term t ∷ []
added_last done t before =
    let end : ℕ = length done in
    let new : SumTerm = sum_term t in
    let at : ℕ → List SumTerm = λ k. cond (is_at done k t.register) (slice_set done k (with_more t.coefficient (slice_index_or done k new))) (insert done k new) in
    let absent : is_at done end t.register ≡ false = ap (has_name t.register) (slice_get_past done end (omega arith)) in
    ap at (prefix_all (is_before t.register) done before)
    ∙ ap (λ (v : Bool). cond v (slice_set done end (with_more t.coefficient (slice_index_or done end new))) (insert done end new)) absent
    ∙ ap (λ (l : List SumTerm). l ++ new ∷ drop end done) (take_all end done (omega arith))
    ∙ ap (λ (l : List SumTerm). done ++ new ∷ l) (drop_all end done (omega arith))

abbrev total_is : List SumTerm → ℤ → Total
total_is terms constant = record { terms = terms; constant = constant; is_within_limits = true }

-- each term that is done stands before each that follows
abbrev AllBefore : List SumTerm → List Term → Type 0
AllBefore done ts = All (λ t. list_all (is_before t.register) done ≡ true) ts

before_more : (done : List SumTerm) (t : Term) (ts : List Term) → AllBefore done ts → All (λ u. is_earlier t u ≡ true) ts → AllBefore (done ++ sum_term t ∷ []) ts
before_more done t ts before rising = λ k d l.
    let u : Term = slice_index_or ts k d in
    list_all-append (is_before u.register) done (sum_term t ∷ [])
    ∙ and_from (list_all (is_before u.register) done) (is_earlier t u && true) (before k d l) (and_from (is_earlier t u) true (rising k d l) refl)

step : (read : Result (Limited SignedTerm) ℕ) (term : Limited SignedTerm) (total : Total) (more : List SignedText) → read ≡ Ok term → (read >>= λ term. all_added (plus total term) more) ≡ all_added (plus total term) more
step read term total more e = ap (λ (r : Result (Limited SignedTerm) ℕ). r >>= λ term. all_added (plus total term) more) e

zero_plus : (z : ℤ) → pos 0 +ℤ z ≡ z
zero_plus z = omega (arith, ints)

size_zero : (z : ℤ) → unsigned_abs z ≡ 0 → pos 0 ≡ z
size_zero z h = omega (arith, ints)

one_constant : (done : List SumTerm) (z : ℤ) → unsigned_abs z < 2 ^ 63 → all_added (total_is done (pos 0)) (one_text (is_minus z) (decimal (unsigned_abs z)) ∷ []) ≡ Ok (total_is done z)
unfolding all_added
one_constant done z h =
    let read : term_of (is_minus z) (decimal (unsigned_abs z)) ≡ Ok (term_read None z) = constant_read (is_minus z) (unsigned_abs z) h ∙ ap (λ (x : ℤ). let r : Result (Limited SignedTerm) ℕ = Ok (term_read None x) in r) (signed_size z) in
    step (term_of (is_minus z) (decimal (unsigned_abs z))) (term_read None z) (total_is done (pos 0)) [] read ∙ ap (λ (x : ℤ). let r : Result Total ℕ = Ok (total_is done x) in r) (zero_plus z)

constant_added : (done : List SumTerm) (z : ℤ) → unsigned_abs z < 2 ^ 63 → all_added (total_is done (pos 0)) (constant_texts z) ≡ Ok (total_is done z)
unfolding all_added
constant_added done z h =
    elim (eqb (unsigned_abs z) 0) as (λ v. eqb (unsigned_abs z) 0 ≡ v → all_added (total_is done (pos 0)) (cond v [] (one_text (is_minus z) (decimal (unsigned_abs z)) ∷ [])) ≡ Ok (total_is done z)) [
      | true ↦ λ (e : eqb (unsigned_abs z) 0 ≡ true). ap (λ (x : ℤ). let r : Result Total ℕ = Ok (total_is done x) in r) (size_zero z (eqb-true (unsigned_abs z) 0 e))
      | false ↦ λ (e : eqb (unsigned_abs z) 0 ≡ false). one_constant done z h
    ] refl

all_again : (done : List SumTerm) (ts : List Term) (z : ℤ) → All IsTerm ts → AreRising ts → AllBefore done ts → unsigned_abs z < 2 ^ 63 → all_added (total_is done (pos 0)) (texts ts z) ≡ Ok (total_is (done ++ map sum_term ts) z)
unfolding all_added
all_again done [] z are rising before h = constant_added done z h ∙ ap (λ (l : List SumTerm). let r : Result Total ℕ = Ok (total_is l z) in r) (sym (append-nil done))
all_again done (t ∷ ts) z are rising before h =
    let is : IsTerm t = All-head IsTerm t ts are in
    let P : Term → Type 0 = λ u. list_all (is_before u.register) done ≡ true in
    let first : list_all (is_before t.register) done ≡ true = All-head P t ts before in
    let done2 : List SumTerm = done ++ sum_term t ∷ [] in
    step (term_of (is_minus t.coefficient) (body t)) (term_read (Some t.register) t.coefficient) (total_is done (pos 0)) (texts ts z) (term_again t is)
    ∙ ap (λ (l : List SumTerm). all_added (total_is l (pos 0)) (texts ts z)) (added_last done t first)
    ∙ all_again done2 ts z (All-tail IsTerm t ts are) rising.1 (before_more done t ts (All-tail P t ts before) rising.0) h
    ∙ ap (λ (l : List SumTerm). let r : Result Total ℕ = Ok (total_is l z) in r) (append_assoc done (sum_term t ∷ []) (map sum_term ts))

-- ---- the form of the sum

fits_again : (z : ℤ) → unsigned_abs z < 2 ^ 63 → fits_form z ≡ true
fits_again (pos n) h = le-leb n 9223372036854775807 (omega arith)
fits_again (negsuc n) h = and_from (leb n 9223372036854775806) true (le-leb n 9223372036854775806 (omega arith)) refl

narrow_again : (z : ℤ) → unsigned_abs z < 2 ^ 63 → narrowed z ≡ within z
narrow_again z h = ap (λ (b : Bool). cond b (within z) (past_limit (pos 0))) (fits_again z h)

kept_again : (ts : List Term) → All IsTerm ts → filter_map kept (map sum_term ts) ≡ ts
kept_again [] are = refl
kept_again (t ∷ ts) are =
    let is : IsTerm t = All-head IsTerm t ts are in
    let one : kept (sum_term t) ≡ Some t =
    ap (λ (b : Bool). cond b None (let o : Option Term = Some (record { register = t.register; coefficient = (narrowed t.coefficient).value }) in o)) is.there
    ∙ ap (λ (l : Limited ℤ). let o : Option Term = Some (record { register = t.register; coefficient = l.value }) in o) (narrow_again t.coefficient is.fits) in
    ap (λ (o : Option Term). cons_option o (filter_map kept (map sum_term ts))) one ∙ ap (λ (l : List Term). t ∷ l) (kept_again ts (All-tail IsTerm t ts are))

narrow_all : (ts : List Term) → All IsTerm ts → list_all is_narrow (map sum_term ts) ≡ true
narrow_all [] are = refl
narrow_all (t ∷ ts) are =
    let is : IsTerm t = All-head IsTerm t ts are in
    and_from (is_narrow (sum_term t)) (list_all is_narrow (map sum_term ts)) (ap (λ (l : Limited ℤ). l.is_within_limits) (narrow_again t.coefficient is.fits)) (narrow_all ts (All-tail IsTerm t ts are))

form_again : (f : Form) → IsCanonical f → form_from (total_is (map sum_term f.terms) f.constant) ≡ within f
unfolding form_from
form_again f is =
    let made : List Term → Limited ℤ → Bool → Limited Form = λ ts c all. record { value = record { terms = ts; constant = c.value }; is_within_limits = true && c.is_within_limits && all } in
    ap (λ (ts : List Term). made ts (narrowed f.constant) (list_all is_narrow (map sum_term f.terms))) (kept_again f.terms is.terms)
    ∙ ap (λ (c : Limited ℤ). made f.terms c (list_all is_narrow (map sum_term f.terms))) (narrow_again f.constant is.constant)
    ∙ ap (λ (b : Bool). made f.terms (within f.constant) b) (narrow_all f.terms is.terms)

texts_again : (ts : List Term) (z : ℤ) → All IsTerm ts → AreRising ts → unsigned_abs z < 2 ^ 63 → all_added nothing (signed_texts (terms_text ts z)) ≡ Ok (total_is (map sum_term ts) z)
texts_again [] z are rising h = ap (all_added nothing) (constant_first z h) ∙ one_constant [] z h
texts_again (t ∷ ts) z are rising h = ap (all_added nothing) (first_texts t ts z are h) ∙ all_again [] (t ∷ ts) z are rising (λ k d l. refl) h

pub spelled_again : (f : Form) → IsCanonical f → form_of (form_text f) ≡ Ok (within f)
unfolding form_of form_text
spelled_again f is =
    ap (λ (r : Result Total ℕ). r >>= λ total. let r : Result (Limited Form) ℕ = Ok (form_from total) in r) (texts_again f.terms f.constant is.terms is.rising is.constant)
    ∙ ap (λ (l : Limited Form). let r : Result (Limited Form) ℕ = Ok l in r) (form_again f is)

-- The loop over the terms of a form's word.
use Rattle.std.proofs.Common.{◌≡◌, ℕ, suc, ◌+◌, ◌-◌, ◌*◌, ◌^◌, ◌<◌, ◌≤◌, ◌⊎◌, inl, inr, Bool, true, false, cond, eqb, List, [], ◌∷◌, ◌++◌, length, take, drop, Option, Some, None, Result, Ok, Err, refl, sym, subst, ap, ◌∙◌, arith, append_assoc, append-nil, length-drop}
use Rattle.std.specs.Prelude.{ℤ, ◌+ℤ◌, unsigned_abs, All, not, ◌&&◌, slice_set, slice_index_or, insert}
use Rattle.std.specs.List.{prefix_len, filter_map, cons_option}
use Rattle.std.proofs.lemmas.Int.{ints}
use Rattle.std.proofs.lemmas.Bool.{eqb-true}
use Rattle.std.proofs.lemmas.Option.{slice_get_cases}
use Rattle.std.proofs.lemmas.List.Elements.{All-set, All-take, All-drop, All-append, All-cons, All-weaker, All-get_or, filter_map-append}
use Rattle.std.proofs.lemmas.List.{take_rest}
use Rattle.syntax.specs.declared.annotation.Term.{Term}
use Rattle.ir_annotation.specs.declared.sums.SumTerm.{SumTerm}
use Rattle.ir_annotation.specs.declared.sums.SignedTerm.{SignedTerm}
use Rattle.ir_annotation.specs.declared.limits.Limited.{Limited}
use Rattle.refusal.specs.declared.refused.Refused.{Refused}
use Rattle.refusal.specs.declared.refused.Refused.TheVariants.{Fault, Memory}
use Rattle.ir_annotation.specs.Bounds.{is_no_sign, BeginsWithSign}
use Rattle.ir_annotation.specs.Reading.{◌>>=◌}
use Rattle.ir_annotation.specs.Answers.{Fails}
use Rattle.ir_annotation.specs.Forms.{SignedText, Cut, as_signed, onto_cut, cut_of, signed_texts, Total, nothing, added, is_at, is_before, has_name, with_more, with_amount, plus, all_added, term_of, kept}

-- after some bytes: what is left of the word goes on from the sum so far, which so many numbers cannot have made large
pub record Summing (word : List ℕ) (total : Total) (is_negative : Bool) (rest : List ℕ) : Type 0 where
  pub on : all_added total (as_signed is_negative (cut_of rest)) ≡ all_added nothing (signed_texts word)
  pub shorter : length rest ≤ length word
  pub constant : unsigned_abs total.constant ≤ (length word - length rest) * 2 ^ 63
  pub terms : All (λ t. unsigned_abs t.coefficient ≤ (length word - length rest) * 2 ^ 63) total.terms

-- ---- cutting

-- what stands behind a term
abbrev pub rest_behind : List ℕ → List SignedText
rest_behind [] = []
rest_behind (sign ∷ rest) = as_signed (eqb sign 45) (cut_of rest)

abbrev pub cut_at : List ℕ → ℕ → Cut
cut_at text n = record { first = take n text; rest = rest_behind (drop n text) }

nor : (x y : Bool) → (not x && not y) ≡ false → (x ≡ true) ⊎ (y ≡ true)
nor true y h = inl refl
nor false true h = inr refl
nor false false h = absurd cc

neither : (x y : Bool) → (not x && not y) ≡ true → (x ≡ false) × (y ≡ false)
neither true y h = absurd cc
neither false true h = absurd cc
neither false false h = (refl, refl)

signed_at : ℕ → Cut → Cut
signed_at b cut = record { first = []; rest = as_signed (eqb b 45) cut }

signed_here : (b : ℕ) (cut : Cut) → is_no_sign b ≡ false → onto_cut b cut ≡ signed_at b cut
unfolding signed_at
signed_here b cut h =
    elim (nor (eqb b 43) (eqb b 45) h) [
      | inl e ↦ subst (λ (v : ℕ). onto_cut v cut ≡ signed_at v cut) (sym (eqb-true b 43 e)) refl
      | inr e ↦ subst (λ (v : ℕ). onto_cut v cut ≡ signed_at v cut) (sym (eqb-true b 45 e)) refl
    ]

pub plain_here : (b : ℕ) (cut : Cut) → is_no_sign b ≡ true → onto_cut b cut ≡ record { first = b ∷ cut.first; rest = cut.rest }
plain_here b cut h = let n = neither (eqb b 43) (eqb b 45) h in rw (n.0, n.1) refl

pub cut_of-at : (text : List ℕ) → cut_of text ≡ cut_at text (prefix_len is_no_sign text)
unfolding cut_of signed_at
cut_of-at [] = refl
cut_of-at (b ∷ bs) =
    elim (is_no_sign b) as (λ v. is_no_sign b ≡ v → cut_of (b ∷ bs) ≡ cut_at (b ∷ bs) (cond v (1 + prefix_len is_no_sign bs) 0)) [
      | true ↦ λ (h : is_no_sign b ≡ true).
          let e : suc (prefix_len is_no_sign bs) ≡ 1 + prefix_len is_no_sign bs = omega arith in
          plain_here b (cut_of bs) h ∙ ap (λ (c : Cut). let r : Cut = record { first = b ∷ c.first; rest = c.rest } in r) (cut_of-at bs) ∙ ap (cut_at (b ∷ bs)) e
      | false ↦ λ (h : is_no_sign b ≡ false). signed_here b (cut_of bs) h
    ] refl

-- ---- one more term

-- the reading of the next term decides
pub reads_one : (word : List ℕ) (total : Total) (is_negative : Bool) (rest text : List ℕ) → Summing word total is_negative rest → text ≡ take (prefix_len is_no_sign rest) rest →
    (term_of is_negative text >>= λ term. all_added (plus total term) (rest_behind (drop (prefix_len is_no_sign rest) rest))) ≡ all_added nothing (signed_texts word)
unfolding all_added
reads_one word total is_negative rest text s e =
    ap (λ (t : List ℕ). term_of is_negative t >>= λ term. all_added (plus total term) (rest_behind (drop (prefix_len is_no_sign rest) rest))) e
    ∙ ap (λ (c : Cut). all_added total (as_signed is_negative c)) (sym (cut_of-at rest))
    ∙ s.on

unless_read : (read : Result (Limited SignedTerm) ℕ) (number : ℕ) (go : Limited SignedTerm → Result Total ℕ) (out : Result Total ℕ) → read ≡ Err number → (read >>= go) ≡ out → out ≡ Err number
unless_read read number go out e h = sym h ∙ ap (λ (r : Result (Limited SignedTerm) ℕ). r >>= go) e

once_read : (read : Result (Limited SignedTerm) ℕ) (term : Limited SignedTerm) (go : Limited SignedTerm → Result Total ℕ) (out : Result Total ℕ) → read ≡ Ok term → (read >>= go) ≡ out → go term ≡ out
once_read read term go out e h = ap (λ (r : Result (Limited SignedTerm) ℕ). r >>= go) (sym e) ∙ h

pub fails_here : (word : List ℕ) (total : Total) (is_negative : Bool) (rest text : List ℕ) (number : ℕ) → Summing word total is_negative rest → text ≡ take (prefix_len is_no_sign rest) rest →
    term_of is_negative text ≡ Err number → all_added nothing (signed_texts word) ≡ Err number
fails_here word total is_negative rest text number s e h =
    unless_read (term_of is_negative text) number _ _ h (reads_one word total is_negative rest text s e)

pub goes_on : (word : List ℕ) (total : Total) (is_negative : Bool) (rest text : List ℕ) (term : Limited SignedTerm) → Summing word total is_negative rest → text ≡ take (prefix_len is_no_sign rest) rest →
    term_of is_negative text ≡ Ok term → all_added (plus total term) (rest_behind (drop (prefix_len is_no_sign rest) rest)) ≡ all_added nothing (signed_texts word)
goes_on word total is_negative rest text term s e h =
    once_read (term_of is_negative text) term _ _ h (reads_one word total is_negative rest text s e)

pub ends_here : (word : List ℕ) (total : Total) (is_negative : Bool) (rest text : List ℕ) (term : Limited SignedTerm) → Summing word total is_negative rest → text ≡ take (prefix_len is_no_sign rest) rest →
    term_of is_negative text ≡ Ok term → drop (prefix_len is_no_sign rest) rest ≡ [] → all_added nothing (signed_texts word) ≡ Ok (plus total term)
unfolding all_added
ends_here word total is_negative rest text term s e h over =
    sym (goes_on word total is_negative rest text term s e h) ∙ ap (λ (r : List ℕ). all_added (plus total term) (rest_behind r)) over

-- ---- sums stay small

abbrev pub AtMost : ℕ → List SumTerm → Type 0
AtMost most ts = All (λ t. unsigned_abs t.coefficient ≤ most) ts

abs_sum : (a b : ℤ) → unsigned_abs (a +ℤ b) ≤ unsigned_abs a + unsigned_abs b
abs_sum a b = omega (arith, ints)

at_within : (ts : List SumTerm) (place : ℕ) (name : List ℕ) → is_at ts place name ≡ true → place < length ts
at_within ts place name h = elim (slice_get_cases ts place).1 [
  | inl f ↦ f.1
  | inr f ↦ let e : has_name name None ≡ true = ap (has_name name) (sym f.1) ∙ h in absurd cc
]

pub added_small : (most more : ℕ) (ts : List SumTerm) (name : List ℕ) (amount : ℤ) → most + unsigned_abs amount ≤ more → AtMost most ts → AtMost more (added ts name amount)
added_small most more ts name amount fits small =
    let place : ℕ = prefix_len (is_before name) ts in
    let new : SumTerm = record { register = name; coefficient = amount } in
    let P : SumTerm → Type 0 = λ t. unsigned_abs t.coefficient ≤ more in
    let wide : All P ts = All-weaker (λ (t : SumTerm). unsigned_abs t.coefficient ≤ most) P (λ (t : SumTerm) (h : unsigned_abs t.coefficient ≤ most). omega arith) ts small in
    elim (is_at ts place name) as (λ v. is_at ts place name ≡ v → All P (cond v (slice_set ts place (with_more amount (slice_index_or ts place new))) (insert ts place new))) [
      | true ↦ λ (h : is_at ts place name ≡ true).
          let old : unsigned_abs (slice_index_or ts place new).coefficient ≤ most = All-get_or (λ (t : SumTerm). unsigned_abs t.coefficient ≤ most) ts place new (at_within ts place name h) small in
          let sum = abs_sum (slice_index_or ts place new).coefficient amount in
          All-set P ts place (with_more amount (slice_index_or ts place new)) (omega arith) wide
      | false ↦ λ (h : is_at ts place name ≡ false).
          All-append P (take place ts) (new ∷ drop place ts) (All-take P place ts wide) (All-cons P new (drop place ts) (omega arith) (All-drop P place ts wide))
    ] refl

pub record AreSmall (most : ℕ) (total : Total) : Type 0 where
  pub constant : unsigned_abs total.constant ≤ most
  pub terms : AtMost most total.terms

amount_small : (most more : ℕ) (total : Total) (is_within : Bool) (register : Option (List ℕ)) (amount : ℤ) → most + unsigned_abs amount ≤ more → AreSmall most total → AreSmall more (with_amount total is_within register amount)
amount_small most more total is_within None amount fits s = record {
  constant = let sum = abs_sum total.constant amount in let h = s.constant in omega arith;
  terms = All-weaker (λ (t : SumTerm). unsigned_abs t.coefficient ≤ most) (λ (t : SumTerm). unsigned_abs t.coefficient ≤ more) (λ (t : SumTerm) (h : unsigned_abs t.coefficient ≤ most). omega arith) total.terms s.terms;
}
amount_small most more total is_within (Some name) amount fits s = record {
  constant = let h = s.constant in omega arith;
  terms = added_small most more total.terms name amount fits s.terms;
}

-- a sign, and what is behind it
pub next_term : (word : List ℕ) (total : Total) (is_negative : Bool) (rest text : List ℕ) (term : Limited SignedTerm) (sign : ℕ) (behind : List ℕ) → Summing word total is_negative rest → text ≡ take (prefix_len is_no_sign rest) rest →
    term_of is_negative text ≡ Ok term → unsigned_abs term.value.amount < 2 ^ 63 → drop (prefix_len is_no_sign rest) rest ≡ sign ∷ behind → Summing word (plus total term) (eqb sign 45) behind
next_term word total is_negative rest text term sign behind s e h small more =
    let fewer : length behind + 1 ≤ length rest = omega (arith, ap length more, length-drop (prefix_len is_no_sign rest) rest) in
    let shorter = s.shorter in
    let far : (length word - length rest) * 2 ^ 63 + unsigned_abs term.value.amount ≤ (length word - length behind) * 2 ^ 63 = omega arith in
    let grown = amount_small ((length word - length rest) * 2 ^ 63) ((length word - length behind) * 2 ^ 63) total term.is_within_limits term.value.register term.value.amount far (record { constant = s.constant; terms = s.terms }) in
    record {
      on = ap (λ (r : List ℕ). all_added (plus total term) (rest_behind r)) (sym more) ∙ goes_on word total is_negative rest text term s e h;
      shorter = omega arith;
      constant = grown.constant;
      terms = grown.terms;
    }

-- ---- the goals of the loop

pub fails_term : (word : List ℕ) (total : Total) (is_negative : Bool) (rest : List ℕ) (n line : ℕ) (read : Refused) → Summing word total is_negative rest → n ≡ prefix_len is_no_sign rest →
    Fails line read (term_of is_negative (take n rest)) → Fails line read (all_added nothing (signed_texts word))
fails_term word total is_negative rest n line Memory s e h = tt
fails_term word total is_negative rest n line (Fault number at) s e h =
    (h.0, fails_here word total is_negative rest (take n rest) number s (ap (λ (k : ℕ). take k rest) e) h.1)

all_behind : (n : ℕ) (rest : List ℕ) → take (length rest - n) (drop n rest) ≡ drop n rest
all_behind n rest = take_rest rest n

pub ends_term : (word : List ℕ) (total total' : Total) (is_negative : Bool) (rest : List ℕ) (n : ℕ) (term : Limited SignedTerm) → Summing word total is_negative rest → n ≡ prefix_len is_no_sign rest →
    term_of is_negative (take n rest) ≡ Ok term → take (length rest - n) (drop n rest) ≡ [] → total' ≡ plus total term → all_added nothing (signed_texts word) ≡ Ok total'
ends_term word total total' is_negative rest n term s e h over sum =
    ends_here word total is_negative rest (take n rest) term s (ap (λ (k : ℕ). take k rest) e) h (ap (λ (k : ℕ). drop k rest) (sym e) ∙ sym (all_behind n rest) ∙ over) ∙ ap Ok (sym sum)

pub next_turn : (word : List ℕ) (total total' : Total) (is_negative : Bool) (rest : List ℕ) (n : ℕ) (term : Limited SignedTerm) (is_minus : Bool) (behind : List ℕ) → Summing word total is_negative rest → n ≡ prefix_len is_no_sign rest →
    term_of is_negative (take n rest) ≡ Ok term → unsigned_abs term.value.amount < 2 ^ 63 → total' ≡ plus total term → BeginsWithSign (take (length rest - n) (drop n rest)) is_minus behind → Summing word total' is_minus behind
next_turn word total total' is_negative rest n term is_minus behind s e h small sum b =
    let there : drop (prefix_len is_no_sign rest) rest ≡ b.0 ∷ behind = ap (λ (k : ℕ). drop k rest) (sym e) ∙ sym (all_behind n rest) ∙ b.1 in
    let next = next_term word total is_negative rest (take n rest) term b.0 behind s (ap (λ (k : ℕ). take k rest) e) h small there in
    let at_total : Summing word total' (eqb b.0 45) behind = subst (λ (t : Total). Summing word t (eqb b.0 45) behind) (sym sum) next in
    subst (λ (m : Bool). Summing word total' m behind) (sym b.2) at_total

-- ---- terms that are kept

unmoved : (done left rest all : List SumTerm) (t : SumTerm) → done ++ left ≡ all → left ≡ t ∷ rest → (done ++ t ∷ []) ++ rest ≡ all
unmoved done left rest all t h e = append_assoc done (t ∷ []) rest ∙ ap (λ (l : List SumTerm). done ++ l) (sym e) ∙ h

pub one_kept : (found found' : List Term) (done left rest all : List SumTerm) (t : SumTerm) (x : Term) → found ≡ filter_map kept done → done ++ left ≡ all → left ≡ t ∷ rest → Some x ≡ kept t → found' ≡ found ++ x ∷ [] →
    (found' ≡ filter_map kept (done ++ t ∷ [])) × ((done ++ t ∷ []) ++ rest ≡ all)
one_kept found found' done left rest all t x f h e k p =
    let grown : filter_map kept (done ++ t ∷ []) ≡ filter_map kept done ++ x ∷ [] = filter_map-append kept done (t ∷ []) ∙ ap (λ (o : Option Term). filter_map kept done ++ cons_option o []) (sym k) in
    (p ∙ ap (λ (l : List Term). l ++ x ∷ []) f ∙ sym grown, unmoved done left rest all t h e)

pub none_kept : (found : List Term) (done left rest all : List SumTerm) (t : SumTerm) → found ≡ filter_map kept done → done ++ left ≡ all → left ≡ t ∷ rest → None ≡ kept t →
    (found ≡ filter_map kept (done ++ t ∷ [])) × ((done ++ t ∷ []) ++ rest ≡ all)
none_kept found done left rest all t f h e k =
    let grown : filter_map kept (done ++ t ∷ []) ≡ filter_map kept done = filter_map-append kept done (t ∷ []) ∙ ap (λ (o : Option Term). filter_map kept done ++ cons_option o []) (sym k) ∙ append-nil (filter_map kept done) in
    (f ∙ sym grown, unmoved done left rest all t h e)

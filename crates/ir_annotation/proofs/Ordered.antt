-- A form that is read is one as the text keeps it.
use Rattle.std.proofs.Common.{◌≡◌, ℕ, zero, suc, ◌+◌, ◌^◌, ◌<◌, ◌≤◌, inl, inr, Bool, true, false, cond, eqb, leb, List, [], ◌∷◌, length, get_or, set, take, drop, Option, Some, None, Result, Ok, Err, refl, sym, subst, ap, ◌∙◌, arith}
use Rattle.std.specs.Prelude.{ℤ, pos, negsuc, unsigned_abs, All, ◌&&◌, nat_le, slice_set, slice_index_or, insert}
use Rattle.std.specs.declared.cmp.Ordering.{Ordering}
use Rattle.std.specs.declared.cmp.Ordering.TheVariants.{Less, Equal, Greater}
use Rattle.std.specs.Ordering.{nat_cmp, int_eq, is_eq, ordering_reverse}
use Rattle.std.specs.Cmp.Lexicographic.{slice_cmp}
use Rattle.std.specs.List.{prefix_len, list_all, filter_map, cons_option}
use Rattle.std.specs.Str.{bytes_eq}
use Rattle.std.proofs.lemmas.Bool.{leb-true, and_parts}
use Rattle.std.proofs.lemmas.Cmp.{nat_list_cmp_total}
use Rattle.std.proofs.lemmas.Map.Text.{is_eq-slice_cmp}
use Rattle.std.proofs.lemmas.Option.{slice_get_cases, get_or_from_slice_get}
use Rattle.std.proofs.lemmas.List.Elements.{All-head, All-tail, All-nil, All-cons, All-append, All-take, All-drop, All-set, All-get_or, All-weaker}
use Rattle.syntax.specs.declared.annotation.Term.{Term}
use Rattle.syntax.specs.declared.annotation.Form.{Form}
use Rattle.ir_annotation.specs.declared.limits.Limited.{Limited}
use Rattle.ir_annotation.specs.declared.sums.SumTerm.{SumTerm}
use Rattle.ir_annotation.specs.declared.sums.SignedTerm.{SignedTerm}
use Rattle.ir_annotation.specs.Canonical.{is_earlier, AreRising, IsTerm, IsCanonical}
use Rattle.ir_annotation.specs.Limits.{within, past_limit, fits_form, narrowed}
use Rattle.ir_annotation.specs.Reading.{◌>>=◌}
use Rattle.ir_lex.specs.Spelling.{is_name}
use Rattle.ir_annotation.specs.Words.{number_of, name_of, register_of}
use Rattle.ir_annotation.specs.Forms.{SignedText, signed_texts, signed, term_behind, is_no_star, term_by_number, term_of, Total, is_less, is_before, has_name, is_at, with_more, added, with_amount, plus, all_added, nothing, kept, is_narrow, form_from, form_of}

-- ---- reading gives what its parts give

-- what a reading goes on with
pub record Bound {A B : Type 0} (read : Result A ℕ) (go : A → Result B ℕ) (out : B) : Type 0 where
  pub value : A
  pub read_is : read ≡ Ok value
  pub goes : go value ≡ Ok out

pub bound : {A B : Type 0} (read : Result A ℕ) (go : A → Result B ℕ) (out : B) → (read >>= go) ≡ Ok out → Bound read go out
bound (Ok x) go out h = record { value = x; read_is = refl; goes = h }
bound (Err e) go out h = absurd cc

-- ---- names

pub record IsNameRead (name : List ℕ) (is_within : Bool) : Type 0 where
  pub spelled : is_name name ≡ true
  pub short : is_within ≡ true → length name ≤ 64

pub name_read : (name : List ℕ) (l : Limited (List ℕ)) → name_of name ≡ Ok l → IsNameRead l.value l.is_within_limits
unfolding name_of
name_read name l h =
    elim (is_name name) as (λ v. is_name name ≡ v → cond v (let r : Result (Limited (List ℕ)) ℕ = Ok (record { value = name; is_within_limits = nat_le (length name) 64 }) in r) (Err 103) ≡ Ok l → IsNameRead l.value l.is_within_limits) [
      | true ↦ λ (is : is_name name ≡ true) (e : (let r : Result (Limited (List ℕ)) ℕ = Ok (record { value = name; is_within_limits = nat_le (length name) 64 }) in r) ≡ Ok l).
          let made : Limited (List ℕ) = record { value = name; is_within_limits = nat_le (length name) 64 } in
          let same : made ≡ l = cc in
          let whole : IsNameRead made.value made.is_within_limits = record { spelled = is; short = λ (w : nat_le (length name) 64 ≡ true). leb-true (length name) 64 w } in
          subst (λ (x : Limited (List ℕ)). IsNameRead x.value x.is_within_limits) same whole
      | false ↦ λ (is : is_name name ≡ false) (e : (let r : Result (Limited (List ℕ)) ℕ = Err 103 in r) ≡ Ok l). absurd cc
    ] refl h

pub register_read : (word : List ℕ) (l : Limited (List ℕ)) → register_of word ≡ Ok l → IsNameRead l.value l.is_within_limits
register_read [] l h = absurd cc
register_read (sigil ∷ name) l h =
    elim (eqb sigil 37) as (λ v. cond v (name_of name) (Err 103) ≡ Ok l → IsNameRead l.value l.is_within_limits) [
      | true ↦ λ (e : name_of name ≡ Ok l). name_read name l e
      | false ↦ λ (e : (let r : Result (Limited (List ℕ)) ℕ = Err 103 in r) ≡ Ok l). absurd cc
    ] h

-- a term's register, if it has one
abbrev IsRegisterRead : Option (List ℕ) → Bool → Type 0
IsRegisterRead None is_within = Unit {0}
IsRegisterRead (Some name) is_within = IsNameRead name is_within

abbrev IsTermRead : Limited SignedTerm → Type 0
IsTermRead l = IsRegisterRead l.value.register l.is_within_limits

lone_term : (is_negative : Bool) (name : Limited (List ℕ)) (l : Limited SignedTerm) → IsNameRead name.value name.is_within_limits →
    (let r : Result (Limited SignedTerm) ℕ = Ok (record { value = record { register = Some name.value; amount = signed is_negative 1 }; is_within_limits = name.is_within_limits }) in r) ≡ Ok l → IsTermRead l
lone_term is_negative name l is e =
    let made : Limited SignedTerm = record { value = record { register = Some name.value; amount = signed is_negative 1 }; is_within_limits = name.is_within_limits } in
    let same : made ≡ l = cc in
    subst IsTermRead same is

behind_term : (is_negative : Bool) (number : Limited ℕ) (rest : List ℕ) (l : Limited SignedTerm) → term_behind is_negative number rest ≡ Ok l → IsTermRead l
behind_term is_negative number [] l h =
    let made : Limited SignedTerm = record { value = record { register = None; amount = signed is_negative number.value }; is_within_limits = number.is_within_limits } in
    let same : made ≡ l = cc in
    subst IsTermRead same tt
behind_term is_negative number (star ∷ word) l h =
    let go : Limited (List ℕ) → Result (Limited SignedTerm) ℕ = λ name. Ok (record { value = record { register = Some name.value; amount = signed is_negative number.value }; is_within_limits = number.is_within_limits && name.is_within_limits }) in
    let b = bound (register_of word) go l h in
    let name : Limited (List ℕ) = b.value in
    let is : IsNameRead name.value name.is_within_limits = register_read word name b.read_is in
    let made : Limited SignedTerm = record { value = record { register = Some name.value; amount = signed is_negative number.value }; is_within_limits = number.is_within_limits && name.is_within_limits } in
    let goes : (let r : Result (Limited SignedTerm) ℕ = Ok made in r) ≡ Ok l = b.goes in
    let same : made ≡ l = cc in
    let whole : IsTermRead made = record { spelled = is.spelled; short = λ w. is.short (and_parts number.is_within_limits name.is_within_limits w).1 } in
    subst IsTermRead same whole

term_is : (is_negative : Bool) (text : List ℕ) (l : Limited SignedTerm) → term_of is_negative text ≡ Ok l → IsTermRead l
unfolding term_of
term_is is_negative [] l h = absurd cc
term_is is_negative (b ∷ bs) l h =
    let lone : Limited (List ℕ) → Result (Limited SignedTerm) ℕ = λ name. Ok (record { value = record { register = Some name.value; amount = signed is_negative 1 }; is_within_limits = name.is_within_limits }) in
    let end : ℕ = prefix_len is_no_star (b ∷ bs) in
    elim (eqb b 37) as (λ v. cond v (name_of bs >>= lone) (term_by_number is_negative (b ∷ bs)) ≡ Ok l → IsTermRead l) [
      | true ↦ λ (e : (name_of bs >>= lone) ≡ Ok l).
          let n = bound (name_of bs) lone l e in
          lone_term is_negative n.value l (name_read bs n.value n.read_is) n.goes
      | false ↦ λ (e : term_by_number is_negative (b ∷ bs) ≡ Ok l).
          let n = bound (number_of 9223372036854775807 (take end (b ∷ bs))) (λ number. term_behind is_negative number (drop end (b ∷ bs))) l e in
          behind_term is_negative n.value (drop end (b ∷ bs)) l n.goes
    ] h

-- ---- terms rise

abbrev comes : SumTerm → SumTerm → Type 0
comes t u = is_before u.register t ≡ true

abbrev Rising : List SumTerm → Type 0
Rising [] = Unit {0}
Rising (t ∷ ts) = All (comes t) ts × Rising ts

less_is : (o : Ordering) → is_less o ≡ true → o ≡ Less
less_is Less h = refl
less_is Equal h = absurd cc
less_is Greater h = absurd cc

comes_after : (s t u : SumTerm) → comes s t → comes t u → comes s u
comes_after s t u st tu =
    ap is_less (nat_list_cmp_total.trans s.register t.register u.register (less_is (slice_cmp nat_cmp s.register t.register) st) (less_is (slice_cmp nat_cmp t.register u.register) tu))

-- neither before nor equal: behind
turned : (o : Ordering) → is_less o ≡ false → is_eq o ≡ false → ordering_reverse o ≡ Less
turned Less h e = absurd cc
turned Equal h e = absurd cc
turned Greater h e = refl

comes_before : (new u : SumTerm) → is_before new.register u ≡ false → bytes_eq u.register new.register ≡ false → comes new u
comes_before new u later other =
    ap is_less (nat_list_cmp_total.antisymm new.register u.register ∙ turned (slice_cmp nat_cmp u.register new.register) later (is_eq-slice_cmp u.register new.register ∙ other))

-- the term at the place has another name
abbrev OtherAt : ℕ → SumTerm → List SumTerm → Type 0
OtherAt k new ts = (d : SumTerm) → k < length ts → bytes_eq (get_or ts k d).register new.register ≡ false

rising_insert : (new : SumTerm) (ts : List SumTerm) (k : ℕ) → k ≡ prefix_len (is_before new.register) ts → OtherAt k new ts → Rising ts → Rising (insert ts k new)
rising_insert new [] k e other rising = subst (λ (n : ℕ). Rising (insert [] n new)) (sym e) (All-nil (comes new), tt)
rising_insert new (u ∷ us) k e other rising =
    let m : ℕ = prefix_len (is_before new.register) us in
    elim (is_before new.register u) as (λ v. is_before new.register u ≡ v → k ≡ cond v (1 + m) 0 → Rising (insert (u ∷ us) k new)) [
      | true ↦ λ (before : is_before new.register u ≡ true) (at : k ≡ 1 + m).
          let one : suc m ≡ k = omega arith in
          let there : OtherAt (suc m) new (u ∷ us) = subst (λ (n : ℕ). OtherAt n new (u ∷ us)) (sym one) other in
          let inside : OtherAt m new us = λ d w. there d (omega arith) in
          let all : All (comes u) (insert us m new) = All-append (comes u) (take m us) (new ∷ drop m us) (All-take (comes u) m us rising.0) (All-cons (comes u) new (drop m us) before (All-drop (comes u) m us rising.0)) in
          let whole : Rising (insert (u ∷ us) (suc m) new) = (all, rising_insert new us m refl inside rising.1) in
          subst (λ (n : ℕ). Rising (insert (u ∷ us) n new)) one whole
      | false ↦ λ (later : is_before new.register u ≡ false) (at : k ≡ 0).
          let there : OtherAt 0 new (u ∷ us) = subst (λ (n : ℕ). OtherAt n new (u ∷ us)) at other in
          let first : comes new u = comes_before new u later (there u (omega arith)) in
          let all : All (comes new) (u ∷ us) = All-cons (comes new) u us first (All-weaker (comes u) (comes new) (λ (w : SumTerm) (h : comes u w). comes_after new u w first h) us rising.0) in
          let whole : Rising (new ∷ u ∷ us) = (all, rising) in
          subst (λ (n : ℕ). Rising (insert (u ∷ us) n new)) (sym at) whole
    ] refl e

rising_set : (ts : List SumTerm) (k : ℕ) (d u : SumTerm) → k < length ts → (get_or ts k d).register ≡ u.register → Rising ts → Rising (set ts k u)
rising_set [] k d u inside same rising = absurd (omega arith)
rising_set (t ∷ ts) zero d u inside same rising = (subst (λ (name : List ℕ). All (λ (w : SumTerm). is_less (slice_cmp nat_cmp name w.register) ≡ true) ts) same rising.0, rising.1)
rising_set (t ∷ ts) (suc k) d u inside same rising =
    let above : comes t u = subst (λ (name : List ℕ). is_less (slice_cmp nat_cmp t.register name) ≡ true) same (All-get_or (comes t) ts k d (omega arith) rising.0) in
    (All-set (comes t) ts k u above rising.0, rising_set ts k d u (omega arith) same rising.1)

-- ---- a term more

at_place : (ts : List SumTerm) (k : ℕ) (name : List ℕ) → is_at ts k name ≡ true → k < length ts
at_place ts k name h = elim (slice_get_cases ts k).1 [
  | inl f ↦ f.1
  | inr f ↦ let e : has_name name None ≡ true = ap (has_name name) (sym f.1) ∙ h in absurd cc
]

other_at : (ts : List SumTerm) (k : ℕ) (new : SumTerm) → is_at ts k new.register ≡ false → OtherAt k new ts
other_at ts k new h d inside = elim (slice_get_cases ts k).1 [
  | inl f ↦
      let x : SumTerm = f.0 in
      let read : get_or ts k d ≡ x = get_or_from_slice_get ts k x d f.2 in
      ap (λ (u : SumTerm). bytes_eq u.register new.register) read ∙ ap (has_name new.register) (sym f.2) ∙ h
  | inr f ↦ absurd (omega (arith, f.0, inside))
]

-- terms that rise and have a name each
pub record AreTerms (is_within : Bool) (ts : List SumTerm) : Type 0 where
  pub rising : Rising ts
  pub names : All (λ t. IsNameRead t.register is_within) ts

added_terms : (is_within : Bool) (ts : List SumTerm) (name : List ℕ) (amount : ℤ) → AreTerms is_within ts → IsNameRead name is_within → AreTerms is_within (added ts name amount)
added_terms is_within ts name amount are is =
    let k : ℕ = prefix_len (is_before name) ts in
    let new : SumTerm = record { register = name; coefficient = amount } in
    let P : SumTerm → Type 0 = λ t. IsNameRead t.register is_within in
    elim (is_at ts k name) as (λ v. is_at ts k name ≡ v → AreTerms is_within (cond v (slice_set ts k (with_more amount (slice_index_or ts k new))) (insert ts k new))) [
      | true ↦ λ (h : is_at ts k name ≡ true).
          let inside : k < length ts = at_place ts k name h in
          let old : SumTerm = slice_index_or ts k new in
          let named : P old = All-get_or P ts k new inside are.names in
          record { rising = rising_set ts k new (with_more amount old) inside refl are.rising; names = All-set P ts k (with_more amount old) named are.names }
      | false ↦ λ (h : is_at ts k name ≡ false). record {
        rising = rising_insert new ts k refl (other_at ts k new h) are.rising;
        names = All-append P (take k ts) (new ∷ drop k ts) (All-take P k ts are.names) (All-cons P new (drop k ts) is (All-drop P k ts are.names));
      }
    ] refl

weaker_name : (name : List ℕ) (a b : Bool) → (b ≡ true → a ≡ true) → IsNameRead name a → IsNameRead name b
weaker_name name a b less is = record { spelled = is.spelled; short = λ w. is.short (less w) }

weaker_terms : (a b : Bool) (ts : List SumTerm) → (b ≡ true → a ≡ true) → AreTerms a ts → AreTerms b ts
weaker_terms a b ts less are = record {
  rising = are.rising;
  names = All-weaker (λ (t : SumTerm). IsNameRead t.register a) (λ (t : SumTerm). IsNameRead t.register b) (λ (t : SumTerm) (h : IsNameRead t.register a). weaker_name t.register a b less h) ts are.names;
}

amount_terms : (total : Total) (is_within : Bool) (register : Option (List ℕ)) (amount : ℤ) → AreTerms total.is_within_limits total.terms → IsRegisterRead register is_within →
    AreTerms (with_amount total is_within register amount).is_within_limits (with_amount total is_within register amount).terms
amount_terms total is_within None amount are is = weaker_terms total.is_within_limits (total.is_within_limits && is_within) total.terms (λ w. (and_parts total.is_within_limits is_within w).0) are
amount_terms total is_within (Some name) amount are is =
    let w : Bool = total.is_within_limits && is_within in
    added_terms w total.terms name amount (weaker_terms total.is_within_limits w total.terms (λ h. (and_parts total.is_within_limits is_within h).0) are) (weaker_name name is_within w (λ h. (and_parts total.is_within_limits is_within h).1) is)

all_terms : (total out : Total) (texts : List SignedText) → AreTerms total.is_within_limits total.terms → all_added total texts ≡ Ok out → AreTerms out.is_within_limits out.terms
unfolding all_added
all_terms total out [] are h =
    let same : total ≡ out = cc in
    subst (λ (t : Total). AreTerms t.is_within_limits t.terms) same are
all_terms total out (t ∷ ts) are h =
    let b = bound (term_of t.is_negative t.text) (λ term. all_added (plus total term) ts) out h in
    let term : Limited SignedTerm = b.value in
    all_terms (plus total term) out ts (amount_terms total term.is_within_limits term.value.register term.value.amount are (term_is t.is_negative t.text term b.read_is)) b.goes

-- ---- the form

fits_size : (z : ℤ) → fits_form z ≡ true → unsigned_abs z < 2 ^ 63
fits_size (pos n) h = let l : n ≤ 9223372036854775807 = leb-true n 9223372036854775807 h in omega arith
fits_size (negsuc n) h = let l : n ≤ 9223372036854775806 = leb-true n 9223372036854775806 (and_parts (leb n 9223372036854775806) true h).0 in omega arith

-- what a number within its limit is narrowed to
pub record IsNarrowed (z : ℤ) : Type 0 where
  pub value : (narrowed z).value ≡ z
  pub fits : unsigned_abs z < 2 ^ 63

narrowed_is : (z : ℤ) → (narrowed z).is_within_limits ≡ true → IsNarrowed z
narrowed_is z h =
    elim (fits_form z) as (λ v. fits_form z ≡ v → (cond v (within z) (past_limit (pos 0))).is_within_limits ≡ true → IsNarrowed z) [
      | true ↦ λ (fits : fits_form z ≡ true) (w : true ≡ true). record { value = ap (λ (b : Bool). (cond b (within z) (past_limit (pos 0))).value) fits; fits = fits_size z fits }
      | false ↦ λ (fits : fits_form z ≡ false) (w : false ≡ true). absurd cc
    ] refl h

abbrev kept_as : SumTerm → Term
kept_as t = record { register = t.register; coefficient = (narrowed t.coefficient).value }

-- each term of the list is dropped or kept
all_kept : (P : SumTerm → Type 0) (Q : Term → Type 0) → ((t : SumTerm) → P t → int_eq t.coefficient (pos 0) ≡ false → Q (kept_as t)) → (ts : List SumTerm) → All P ts → All Q (filter_map kept ts)
all_kept P Q step [] are = All-nil Q
all_kept P Q step (t ∷ ts) are =
    let rest : All Q (filter_map kept ts) = all_kept P Q step ts (All-tail P t ts are) in
    elim (int_eq t.coefficient (pos 0)) as (λ v. int_eq t.coefficient (pos 0) ≡ v → All Q (cons_option (cond v None (Some (kept_as t))) (filter_map kept ts))) [
      | true ↦ λ (e : int_eq t.coefficient (pos 0) ≡ true). rest
      | false ↦ λ (e : int_eq t.coefficient (pos 0) ≡ false). All-cons Q (kept_as t) (filter_map kept ts) (step t (All-head P t ts are) e) rest
    ] refl

kept_rising : (ts : List SumTerm) → Rising ts → AreRising (filter_map kept ts)
kept_rising [] rising = tt
kept_rising (t ∷ ts) rising =
    elim (int_eq t.coefficient (pos 0)) as (λ v. AreRising (cons_option (cond v None (Some (kept_as t))) (filter_map kept ts))) [
      | true ↦ kept_rising ts rising.1
      | false ↦ (all_kept (comes t) (λ u. is_earlier (kept_as t) u ≡ true) (λ (u : SumTerm) (h : comes t u) (e : int_eq u.coefficient (pos 0) ≡ false). h) ts rising.0, kept_rising ts rising.1)
    ]

-- the names and the numbers of a term are within their limits
pub record IsGood (t : SumTerm) : Type 0 where
  pub name : is_name t.register ≡ true
  pub short : length t.register ≤ 64
  pub narrow : IsNarrowed t.coefficient

good_term : (t : SumTerm) → IsGood t → int_eq t.coefficient (pos 0) ≡ false → IsTerm (kept_as t)
good_term t good there = record {
  name = good.name;
  short = good.short;
  there = subst (λ (z : ℤ). int_eq z (pos 0) ≡ false) (sym good.narrow.value) there;
  fits = subst (λ (z : ℤ). unsigned_abs z < 2 ^ 63) (sym good.narrow.value) good.narrow.fits;
}

good_terms : (ts : List SumTerm) → All (λ t. IsNameRead t.register true) ts → list_all is_narrow ts ≡ true → All IsGood ts
good_terms [] names narrow = All-nil IsGood
good_terms (t ∷ ts) names narrow =
    let b = and_parts (is_narrow t) (list_all is_narrow ts) narrow in
    let P : SumTerm → Type 0 = λ t. IsNameRead t.register true in
    let named : IsNameRead t.register true = All-head P t ts names in
    All-cons IsGood t ts (record { name = named.spelled; short = named.short refl; narrow = narrowed_is t.coefficient b.0 }) (good_terms ts (All-tail P t ts names) b.1)

canonical_from : (total : Total) → AreTerms total.is_within_limits total.terms → (form_from total).is_within_limits ≡ true → IsCanonical (form_from total).value
unfolding form_from
canonical_from total are h =
    let outer = and_parts (total.is_within_limits && (narrowed total.constant).is_within_limits) (list_all is_narrow total.terms) h in
    let inner = and_parts total.is_within_limits (narrowed total.constant).is_within_limits outer.0 in
    let narrow : IsNarrowed total.constant = narrowed_is total.constant inner.1 in
    let names : All (λ t. IsNameRead t.register true) total.terms = subst (λ (w : Bool). All (λ t. IsNameRead t.register w) total.terms) inner.0 are.names in
    record {
      rising = kept_rising total.terms are.rising;
      terms = all_kept IsGood IsTerm good_term total.terms (good_terms total.terms names outer.1);
      constant = subst (λ (z : ℤ). unsigned_abs z < 2 ^ 63) (sym narrow.value) narrow.fits;
    }

pub read_canonical : (word : List ℕ) (f : Limited Form) → form_of word ≡ Ok f → f.is_within_limits ≡ true → IsCanonical f.value
unfolding form_of
read_canonical word f h w =
    let b = bound (all_added nothing (signed_texts word)) (λ total. let r : Result (Limited Form) ℕ = Ok (form_from total) in r) f h in
    let total : Total = b.value in
    let start : AreTerms true [] = record { rising = tt; names = All-nil (λ (t : SumTerm). IsNameRead t.register true) } in
    let are : AreTerms total.is_within_limits total.terms = all_terms nothing total (signed_texts word) start b.read_is in
    let goes : (let r : Result (Limited Form) ℕ = Ok (form_from total) in r) ≡ Ok f = b.goes in
    let same : form_from total ≡ f = cc in
    let within_total : (form_from total).is_within_limits ≡ true = ap (λ (l : Limited Form). l.is_within_limits) same ∙ w in
    subst (λ (l : Limited Form). IsCanonical l.value) same (canonical_from total are within_total)

-- A form of an annotation is limited.
use Rattle.std.proofs.Common.{◌≡◌, ◌∙◌, ℕ, zero, suc, ◌+◌, ◌*◌, ◌≤◌, ℤ, pos, negsuc, ◌+ℤ◌, Bool, true, false, List, [], ◌∷◌, length, Option, Some, None, Ok, insert, refl, ap, subst, arith}
use Rattle.std.specs.Prelude.{◌==◌, int_le, nat_le, if◌then◌else◌, slice_set, unsigned_abs}
use Rattle.std.specs.List.{prefix_len}
use Rattle.std.proofs.lemmas.Bool.{and_parts, leb-true}
use Rattle.std.proofs.lemmas.Int.{ints}
use Rattle.std.proofs.lemmas.List.Sums.{sum_by-cons}
use Rattle.linear.specs.declared.form.Form.{Form}
use Rattle.linear.specs.declared.form.RegisterId.{RegisterId}
use Rattle.linear.specs.declared.form.Term.{Term}
use Rattle.linear.specs.Terms.{constant_form}
use Rattle.linear.specs.Made.{is_below, is_bounded, coefficient_at, placed_at, placed, with_terms, with_term}
use Rattle.syntax.specs.declared.annotation.Form.{Form as FormText}
use Rattle.syntax.specs.declared.annotation.Term.{Term as TermText}
use Rattle.ir_annotation.specs.Canonical.{IsCanonical}
use Rattle.types.specs.names.Fault.{breaks}
use Rattle.types.specs.declared.names.form.AnnotationPlace.{AnnotationPlace}
use Rattle.types.specs.names.Form.{is_small_coefficient, keeps_limits, term_of, within_bounds, with_one, with_all, form_in_scope}
use Rattle.types.specs.names.Scope.{Scope}
use Rattle.types.proofs.names.Inversion.{Each, made_ok, then_ok, both_ok, same_ok, unless_ok, err_not_ok}
use Rattle.verifier.proofs.Lists.{each_of}
use Rattle.laws_verdict.specs.Limited.{weight, IsLimited}

-- ---- terms that are put in their places

pub weight_cons : (t : Term) (ts : List Term) → weight (t ∷ ts) ≡ unsigned_abs t.coefficient + weight ts
weight_cons t ts = sum_by-cons (λ (u : Term). unsigned_abs u.coefficient) t ts

weight_insert : (ts : List Term) (k : ℕ) (t : Term) → weight (insert ts k t) ≡ weight ts + unsigned_abs t.coefficient
weight_insert [] zero t = let one = weight_cons t [] in omega (arith, one)
weight_insert [] (suc k) t = let one = weight_cons t [] in omega (arith, one)
weight_insert (u ∷ us) zero t = let one = weight_cons t (u ∷ us) in omega (arith, one)
weight_insert (u ∷ us) (suc k) t =
    let rest = weight_insert us k t in
    let one = weight_cons u us in
    let more = weight_cons u (insert us k t) in
    omega (arith, rest, one, more)

abs_more : (c a : ℤ) → unsigned_abs (c +ℤ a) ≤ unsigned_abs c + unsigned_abs a
abs_more c a = omega (arith, ints)

abs_alone : (a : ℤ) → unsigned_abs (pos 0 +ℤ a) ≡ unsigned_abs a
abs_alone a = omega (arith, ints)

own_is : (b : Bool) (x c : ℤ) → (if b then Some x else None) ≡ Some c → x ≡ c
own_is true x c e = cc
own_is false x c e = absurd (cc)

weight_set : (ts : List Term) (k r : ℕ) (register : RegisterId) (c a : ℤ) → coefficient_at ts k r ≡ Some c → weight (slice_set ts k (record { register = register; coefficient = c +ℤ a })) ≤ weight ts + unsigned_abs a
weight_set [] k r register c a e = absurd (cc)
weight_set (t ∷ ts) zero r register c a e =
    let same : t.coefficient ≡ c = own_is (t.register.0 == r) t.coefficient c e in
    let size : unsigned_abs t.coefficient ≡ unsigned_abs c = ap unsigned_abs same in
    let old = weight_cons t ts in
    let new = weight_cons (record { register = register; coefficient = c +ℤ a }) ts in
    let sum = abs_more c a in
    omega (arith, size, old, new, sum)
weight_set (t ∷ ts) (suc k) r register c a e =
    let rest = weight_set ts k r register c a e in
    let old = weight_cons t ts in
    let new = weight_cons t (slice_set ts k (record { register = register; coefficient = c +ℤ a })) in
    omega (arith, rest, old, new)

test_some : {A : Type 0} (b : Bool) (x y : A) → (if b then Some x else None) ≡ Some y → x ≡ y
test_some true x y e = cc
test_some false x y e = absurd (cc)

weight_placed : (ts us : List Term) (k : ℕ) (register : RegisterId) (a : ℤ) (o : Option ℤ) → coefficient_at ts k register.0 ≡ o → placed_at ts k register a o ≡ Some us → weight us ≤ weight ts + unsigned_abs a
weight_placed ts us k register a None at e =
    let same : weight (insert ts k (record { register = register; coefficient = pos 0 +ℤ a })) ≡ weight us = ap weight (test_some (is_bounded (pos 0 +ℤ a)) (insert ts k (record { register = register; coefficient = pos 0 +ℤ a })) us e) in
    let more = weight_insert ts k (record { register = register; coefficient = pos 0 +ℤ a }) in
    let alone = abs_alone a in
    omega (arith, same, more, alone)
weight_placed ts us k register a (Some c) at e =
    let same : weight (slice_set ts k (record { register = register; coefficient = c +ℤ a })) ≡ weight us = ap weight (test_some (is_bounded (c +ℤ a)) (slice_set ts k (record { register = register; coefficient = c +ℤ a })) us e) in
    let more = weight_set ts k register.0 register c a at in
    omega (arith, same, more)

-- ---- forms that are made term by term

record IsGrown (form more : Form) (n : ℕ) : Type 0 where
  pub weight : weight more.terms ≤ weight form.terms + n
  pub constant : more.constant ≡ form.constant

grown_terms : (form more : Form) (a : ℤ) (o : Option (List Term)) → ((us : List Term) → o ≡ Some us → weight us ≤ weight form.terms + unsigned_abs a) → with_terms form.constant o ≡ Some more → IsGrown form more (unsigned_abs a)
grown_terms form more a None less e = absurd (cc)
grown_terms form more a (Some us) less e =
    let made : Form = record { terms = us; constant = form.constant } in
    let same : made ≡ more = cc in
    let P : Form → Type 0 = λ x. IsGrown form x (unsigned_abs a) in
    subst P same (record { weight = less us refl; constant = refl })

grown_term : (form more : Form) (register : RegisterId) (a : ℤ) → with_term form register a ≡ Some more → IsGrown form more (unsigned_abs a)
unfolding placed
grown_term form more register a e =
    let place : ℕ = prefix_len (is_below register.0) form.terms in
    grown_terms form more a (placed form.terms register a) (λ us h. weight_placed form.terms us place register a (coefficient_at form.terms place register.0) refl h) e

grown_one : (line : ℕ) (form more : Form) (term : Term) → with_one line form term ≡ Ok more → IsGrown form more (unsigned_abs term.coefficient)
grown_one line form more term e = from (with_term form term.register term.coefficient) refl e
  where
    from : (o : Option Form) → with_term form term.register term.coefficient ≡ o → within_bounds line o ≡ Ok more → IsGrown form more (unsigned_abs term.coefficient)
    from None is k = absurd (err_not_ok _ more k)
    from (Some other) is k =
        let P : Form → Type 0 = λ x. IsGrown form x (unsigned_abs term.coefficient) in
        subst P (same_ok other more k) (grown_term form other term.register term.coefficient is)

grown_all : (line : ℕ) (terms : List Term) (form more : Form) → with_all line form terms ≡ Ok more → IsGrown form more (weight terms)
grown_all line [] form more e =
    let P : Form → Type 0 = λ x. IsGrown form x (weight []) in
    subst P (same_ok form more e) (record { weight = omega arith; constant = refl })
grown_all line (term ∷ terms) form more e =
    let part = then_ok _ _ more e in
    let first = grown_one line form part.0 term part.1 in
    let rest = grown_all line terms part.0 more part.2 in
    let split = weight_cons term terms in
    let less = first.weight in
    let less' = rest.weight in
    record { weight = omega (arith, split, less, less'); constant = rest.constant ∙ first.constant }

-- ---- what 206 leaves

pub small : (z : ℤ) → is_small_coefficient z ≡ true → unsigned_abs z ≤ 1000000
small (pos n) e = let l = leb-true n 1000000 (and_parts (int_le (negsuc 999999) (pos n)) (int_le (pos n) (pos 1000000)) e).1 in omega (arith, l)
small (negsuc n) e = let l = leb-true n 999999 (and_parts (int_le (negsuc 999999) (negsuc n)) (int_le (negsuc n) (pos 1000000)) e).0 in omega (arith, l)

module _ (scope : Scope) (stands : AnnotationPlace) (line : ℕ) where
  term_small : (text : TermText) (term : Term) → term_of scope stands line text ≡ Ok term → unsigned_abs term.coefficient ≤ 1000000
  term_small text term e =
      let made = made_ok _ _ term e in
      let low = small text.coefficient (unless_ok (is_small_coefficient text.coefficient) (breaks 206 line) made.0.1 (both_ok _ _ made.0 made.1).1) in
      let same : unsigned_abs text.coefficient ≡ unsigned_abs term.coefficient = ap (λ (t : Term). unsigned_abs t.coefficient) made.2 in
      omega (arith, low, same)

  terms_small : (n : ℕ) (texts : List TermText) (terms : List Term) → Each (λ (k : ℕ). term_of scope stands line) n texts terms → weight terms ≤ 1000000 * length texts
  terms_small n [] [] e = omega arith
  terms_small n [] (t ∷ ts) e = absurd e
  terms_small n (x ∷ xs) [] e = absurd e
  terms_small n (x ∷ xs) (t ∷ ts) e =
      let here = term_small x t e.0 in
      let rest = terms_small (n + 1) xs ts e.1 in
      let split = weight_cons t ts in
      omega (arith, here, rest, split)

  pub form_limited : (text : FormText) (form : Form) → IsCanonical text → form_in_scope scope stands line text ≡ Ok form → IsLimited form
  form_limited text form canonical e =
      let part = then_ok _ _ form e in
      let both = both_ok _ _ part.0 part.1 in
      let kept : keeps_limits text ≡ true = unless_ok (keeps_limits text) (breaks 206 line) part.0.1 both.1 in
      let few = leb-true (length text.terms) 4 (and_parts (nat_le (length text.terms) 4) (int_le (negsuc 9223372036854775806) text.constant) kept).0 in
      let terms = terms_small 0 text.terms part.0.0 (each_of (λ (k : ℕ). term_of scope stands line) text.terms part.0.0 both.0) in
      let grown = grown_all line part.0.0 (constant_form text.constant) form part.2 in
      let more = grown.weight in
      let size : unsigned_abs form.constant ≡ unsigned_abs text.constant = ap unsigned_abs grown.constant in
      let room = canonical.constant in
      record { weight = omega (arith, few, terms, more); constant = omega (arith, size, room) }

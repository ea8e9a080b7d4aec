-- Sums of forms, a term at a time.
use Rattle.std.proofs.Common.{◌≡◌, ◌∙◌, ℕ, zero, suc, ◌<◌, ◌≤◌, ◌+◌, ◌*◌, ◌^◌, ℤ, pos, ◌+ℤ◌, ◌*ℤ◌, cond, eqb, eq-eqb, List, [], ◌∷◌, ◌++◌, length, get_or, take, sym, ap, refl, subst, inl, inr, arith, FitsSigned, to_z, of_z}
use Rattle.std.specs.Int.{w64}
use Rattle.std.specs.Int.RustNames.{unsigned_abs}
use Rattle.std.proofs.lemmas.List.Elements.{All-get_or}
use Rattle.std.proofs.lemmas.Int.{ints, unsigned_abs-mul, to_z-of_z}
use Rattle.std.proofs.lemmas.Bool.{cases_eq, ne_eqb}
use Rattle.std.proofs.lemmas.List.{take_more}
use Rattle.std.proofs.Math.Nat.{mul-le-mul}
use Rattle.std.proofs.Math.IntN.{*ℤ-zero}
use Rattle.linear.specs.declared.form.Term.{Term}
use Rattle.linear.specs.Forms.{IsRising, AreSmall, plus, scaled_terms, scaled, Same}
use Rattle.linear.specs.Terms.{Combination, coefficient_of, constant_form}
use Rattle.linear.specs.Bounded.{term_form, IsBounded}
use Rattle.linear.proofs.Coefficients.{own_coefficient}
use Rattle.linear.proofs.Placing.{coefficient_of-append, small_fits}
use Rattle.linear.proofs.Values.{distributes}

pub product_fits : (a b : ℤ) → unsigned_abs a < 2 ^ 24 → unsigned_abs b < 2 ^ 24 → FitsSigned w64 (a *ℤ b)
product_fits a b small_a small_b =
    let size = unsigned_abs-mul a b in
    let below_a : unsigned_abs a ≤ 2 ^ 24 = omega arith in
    let below_b : unsigned_abs b ≤ 2 ^ 24 = omega arith in
    let most : unsigned_abs a * unsigned_abs b ≤ 2 ^ 24 * 2 ^ 24 = mul-le-mul below_a below_b in
    small_product (a *ℤ b) (unsigned_abs a * unsigned_abs b) size most
  where
    small_product : (z : ℤ) (n : ℕ) → unsigned_abs z ≡ n → n ≤ 2 ^ 24 * 2 ^ 24 → FitsSigned w64 z
    small_product z n e most = omega (arith, ints)

abbrev own : ℕ → Term → ℤ
own r t = cond (eqb t.register.0 r) t.coefficient (pos 0)

own_scaled : (k : ℤ) (r : ℕ) (t : Term) → cond (eqb t.register.0 r) (k *ℤ t.coefficient) (pos 0) ≡ k *ℤ own r t
own_scaled k r t = elim (cases_eq t.register.0 r) [
  | inl e ↦ rw (eq-eqb t.register.0 r e) refl
  | inr ne ↦ rw (ne_eqb t.register.0 r ne) (sym (*ℤ-zero k))
]

pub coefficient_of-scaled : (k : ℤ) (ts : List Term) (r : ℕ) → coefficient_of (scaled_terms k ts) r ≡ k *ℤ coefficient_of ts r
coefficient_of-scaled k [] r = sym (*ℤ-zero k)
coefficient_of-scaled k (t ∷ ts) r =
    ap (λ x. x +ℤ coefficient_of (scaled_terms k ts) r) (own_scaled k r t) ∙ ap (λ x. (k *ℤ own r t) +ℤ x) (coefficient_of-scaled k ts r)
    ∙ sym (distributes k (own r t) (coefficient_of ts r))

scaled_terms-append : (k : ℤ) (ts us : List Term) → scaled_terms k (ts ++ us) ≡ scaled_terms k ts ++ scaled_terms k us
scaled_terms-append k [] us = refl
scaled_terms-append k (t ∷ ts) us = ap (λ (l : List Term). let s : Term = record { register = t.register; coefficient = k *ℤ t.coefficient } in s ∷ l) (scaled_terms-append k ts us)

one_times : (x : ℤ) → pos 1 *ℤ x ≡ x
one_times x = omega (arith, ints)

times_one : (x : ℤ) → x *ℤ pos 1 ≡ x
times_one x = omega (arith, ints)

zero_plus : (x : ℤ) → pos 0 +ℤ x ≡ x
zero_plus x = omega (arith, ints)

plus_zero : (x : ℤ) → x ≡ x +ℤ pos 0
plus_zero x = omega (arith, ints)

commute : (x y : ℤ) → x +ℤ y ≡ y +ℤ x
commute x y = omega (arith, ints)

assoc : (x y z : ℤ) → (x +ℤ y) +ℤ z ≡ x +ℤ (y +ℤ z)
assoc x y z = omega (arith, ints)

-- what is read of the terms in a loop
abbrev pub past_end : Term
past_end = record { register = record { 0 = 0 }; coefficient = pos 0 }

pub read_coefficient : (ts : List Term) (i : ℕ) → AreSmall ts → i < length ts → to_z w64 (of_z w64 (get_or ts i past_end).coefficient) ≡ (get_or ts i past_end).coefficient
read_coefficient ts i small within = to_z-of_z w64 (get_or ts i past_end).coefficient (small_fits (get_or ts i past_end).coefficient (All-get_or (λ (t : Term). unsigned_abs t.coefficient < 2 ^ 24) ts i past_end within small))

-- ---- the same form

pub same_of : (e : Combination) → Same e e
same_of e = record { terms = λ r. refl; constant = refl }

pub same_back : (e f : Combination) → Same e f → Same f e
same_back e f s = record { terms = λ r. sym (s.terms r); constant = sym s.constant }

pub same_on : (e f g : Combination) → Same e f → Same f g → Same e g
same_on e f g s t = record { terms = λ r. s.terms r ∙ t.terms r; constant = s.constant ∙ t.constant }

pub bounded_same : (e f : Combination) → Same e f → IsBounded e → IsBounded f
bounded_same e f s b = record {
  terms = λ r. subst (λ (z : ℤ). unsigned_abs z < 2 ^ 24) (s.terms r) (b.terms r);
  constant = subst (λ (z : ℤ). unsigned_abs z < 2 ^ 100) s.constant b.constant;
}

pub scaled_once : (e f : Combination) → Same (plus e (scaled (pos 1) f)) (plus e f)
scaled_once e f = record {
  terms = λ r. coefficient_of-append e.terms (scaled_terms (pos 1) f.terms) r
      ∙ ap (λ x. coefficient_of e.terms r +ℤ x) (coefficient_of-scaled (pos 1) f.terms r ∙ one_times (coefficient_of f.terms r))
      ∙ sym (coefficient_of-append e.terms f.terms r);
  constant = ap (λ x. e.constant +ℤ x) (one_times f.constant);
}

pub from_nothing : (k : ℤ) (e : Combination) → Same (plus (constant_form (pos 0)) (scaled k e)) (scaled k e)
from_nothing k e = record { terms = λ r. refl; constant = zero_plus (k *ℤ e.constant) }

-- ---- the sum with a multiple of a form

-- the sum of a start with a form's first terms times a factor
pub record Multiplied (start sum : Combination) (factor : ℤ) (done : List Term) : Type 0 where
  pub terms : (r : ℕ) → coefficient_of sum.terms r ≡ coefficient_of start.terms r +ℤ coefficient_of (scaled_terms factor done) r
  pub constant : sum.constant ≡ start.constant

pub multiplied_start : (start : Combination) (k : ℤ) → Multiplied start start k []
multiplied_start start k = record { terms = λ r. plus_zero (coefficient_of start.terms r); constant = refl }

reorder : (o a s : ℤ) → o +ℤ (a +ℤ s) ≡ a +ℤ (s +ℤ (o +ℤ pos 0))
reorder o a s = omega (arith, ints)

pub multiplied_next : (start sum new : Combination) (k z : ℤ) (ts : List Term) (i : ℕ) (d : Term) → i < length ts → Multiplied start sum k (take i ts) → z ≡ k *ℤ (get_or ts i d).coefficient →
    Same new (plus (term_form (get_or ts i d).register z) sum) → Multiplied start new k (take (i + 1) ts)
multiplied_next start sum new k z ts i d within m e s =
    let t : Term = get_or ts i d in
    let o : ℕ → ℤ = λ r. cond (eqb t.register.0 r) (k *ℤ t.coefficient) (pos 0) in
    let grown : scaled_terms k (take (i + 1) ts) ≡ scaled_terms k (take i ts) ++ scaled_terms k (t ∷ []) = ap (scaled_terms k) (take_more ts i d within) ∙ scaled_terms-append k (take i ts) (t ∷ []) in
    record {
      terms = λ r. s.terms r
          ∙ ap (λ (x : ℤ). cond (eqb t.register.0 r) x (pos 0) +ℤ coefficient_of sum.terms r) e
          ∙ ap (λ (x : ℤ). o r +ℤ x) (m.terms r)
          ∙ reorder (o r) (coefficient_of start.terms r) (coefficient_of (scaled_terms k (take i ts)) r)
          ∙ ap (λ (x : ℤ). coefficient_of start.terms r +ℤ x) (sym (ap (λ (l : List Term). coefficient_of l r) grown ∙ coefficient_of-append (scaled_terms k (take i ts)) (scaled_terms k (t ∷ [])) r));
      constant = s.constant ∙ zero_plus sum.constant ∙ m.constant;
    }

pub multiplied_sum : (start sum new other : Combination) (k z : ℤ) → Multiplied start sum k other.terms → z ≡ k *ℤ other.constant → Same new (plus (constant_form z) sum) → Same new (plus start (scaled k other))
multiplied_sum start sum new other k z m e s = record {
  terms = λ r. s.terms r ∙ m.terms r ∙ sym (coefficient_of-append start.terms (scaled_terms k other.terms) r);
  constant = s.constant ∙ ap (λ (x : ℤ). z +ℤ x) m.constant ∙ commute z start.constant ∙ ap (λ (x : ℤ). start.constant +ℤ x) e;
}

pub constant_refused : (start sum other : Combination) (k z : ℤ) (done : List Term) → Multiplied start sum k done → z ≡ k *ℤ other.constant → 2 ^ 100 ≤ unsigned_abs (z +ℤ sum.constant) → IsBounded (plus start (scaled k other)) → ⊥
constant_refused start sum other k z done m e large b =
    let same : z +ℤ sum.constant ≡ start.constant +ℤ (k *ℤ other.constant) = ap (λ (x : ℤ). z +ℤ x) m.constant ∙ commute z start.constant ∙ ap (λ (x : ℤ). start.constant +ℤ x) e in
    let small = b.constant in
    let large2 : 2 ^ 100 ≤ unsigned_abs (start.constant +ℤ (k *ℤ other.constant)) = subst (λ (x : ℤ). 2 ^ 100 ≤ unsigned_abs x) same large in
    omega (arith, large2, small)

prefix_none : (ts : List Term) (i : ℕ) (d : Term) → IsRising ts → i < length ts → coefficient_of (take i ts) (get_or ts i d).register.0 ≡ pos 0
prefix_none [] i d rising within = absurd (omega arith)
prefix_none (t ∷ ts) zero d rising within = refl
prefix_none (t ∷ ts) (suc i) d rising within =
    let other : t.register.0 ≡ (get_or ts i d).register.0 → ⊥ = λ (e : t.register.0 ≡ (get_or ts i d).register.0). let l : t.register.0 < (get_or ts i d).register.0 = rising.0 i d (omega arith) in omega arith in
    rw (ne_eqb t.register.0 (get_or ts i d).register.0 other) (zero_plus (coefficient_of (take i ts) (get_or ts i d).register.0)) ∙ prefix_none ts i d rising.1 (omega arith)

pub term_refused : (start sum other : Combination) (k z : ℤ) (ts : List Term) (i : ℕ) (d : Term) → ts ≡ other.terms → IsRising ts → i < length ts → Multiplied start sum k (take i ts) → z ≡ k *ℤ (get_or ts i d).coefficient →
    2 ^ 24 ≤ unsigned_abs (z +ℤ coefficient_of sum.terms (get_or ts i d).register.0) → IsBounded (plus start (scaled k other)) → ⊥
term_refused start sum other k z ts i d same rising within m e large b =
    let t : Term = get_or ts i d in
    let r : ℕ = t.register.0 in
    let a : ℤ = coefficient_of start.terms r in
    let none : coefficient_of (scaled_terms k (take i ts)) r ≡ pos 0 = coefficient_of-scaled k (take i ts) r ∙ ap (λ (x : ℤ). k *ℤ x) (prefix_none ts i d rising within) ∙ *ℤ-zero k in
    let left : z +ℤ coefficient_of sum.terms r ≡ a +ℤ z = ap (λ (x : ℤ). z +ℤ x) (m.terms r ∙ ap (λ (x : ℤ). a +ℤ x) none ∙ sym (plus_zero a)) ∙ commute z a in
    let whole : coefficient_of (scaled_terms k other.terms) r ≡ z = ap (λ (l : List Term). coefficient_of (scaled_terms k l) r) (sym same) ∙ coefficient_of-scaled k ts r ∙ ap (λ (x : ℤ). k *ℤ x) (own_coefficient ts i d rising within) ∙ sym e in
    let right : coefficient_of (start.terms ++ scaled_terms k other.terms) r ≡ a +ℤ z = coefficient_of-append start.terms (scaled_terms k other.terms) r ∙ ap (λ (x : ℤ). a +ℤ x) whole in
    let small : unsigned_abs (a +ℤ z) < 2 ^ 24 = subst (λ (x : ℤ). unsigned_abs x < 2 ^ 24) right (b.terms r) in
    let large2 : 2 ^ 24 ≤ unsigned_abs (a +ℤ z) = subst (λ (x : ℤ). 2 ^ 24 ≤ unsigned_abs x) left large in
    omega (arith, large2, small)

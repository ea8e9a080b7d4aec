-- One more term among terms whose registers rise.
use Rattle.std.proofs.Common.{◌≡◌, ◌∙◌, ℕ, zero, suc, ◌<◌, ◌≤◌, ◌+◌, ◌^◌, Bool, true, false, ℤ, pos, ◌+ℤ◌, cond, eqb, ltb, eq-eqb, List, [], ◌∷◌, ◌++◌, length, get_or, set, take, drop, Option, Some, None, inl, inr, sym, ap, refl, subst, arith, to_z, of_z, FitsSigned}
use Rattle.std.specs.List.{All, prefix_len, insert}
use Rattle.std.specs.Int.RustNames.{unsigned_abs}
use Rattle.std.specs.Int.{w64}
use Rattle.std.proofs.lemmas.Int.{ints, to_z-of_z}
use Rattle.std.proofs.lemmas.Bool.{cases_eq, ne_eqb, ltb-true, lt-ltb}
use Rattle.std.proofs.lemmas.Bool.Decides.{nat_tests}
use Rattle.std.proofs.lemmas.Option.{slice_get_cases, get_or_from_slice_get}
use Rattle.std.proofs.lemmas.List.Elements.{All-cons, All-append, All-take, All-drop, All-set, All-get_or, All-weaker, All-nil}
use Rattle.linear.specs.declared.form.RegisterId.{RegisterId}
use Rattle.linear.specs.declared.form.Term.{Term}
use Rattle.linear.specs.Forms.{IsRising, AreSmall}
use Rattle.linear.specs.Terms.{coefficient_of}
use Rattle.linear.proofs.Coefficients.{none_above, own_coefficient as term_coefficient}
use Rattle.linear.specs.Made.{is_below, own_coefficient, coefficient_at, is_bounded, placed_at, placed}
use Rattle.linear.specs.Bounded.{IsTermAdded}

abbrev own : ℕ → Term → ℤ
own r t = cond (eqb t.register.0 r) t.coefficient (pos 0)

swap : (a b c : ℤ) → a +ℤ (b +ℤ c) ≡ b +ℤ (a +ℤ c)
swap a b c = omega (arith, ints)

assoc : (a b c : ℤ) → (a +ℤ b) +ℤ c ≡ a +ℤ (b +ℤ c)
assoc a b c = omega (arith, ints)

zero_plus : (x : ℤ) → pos 0 +ℤ x ≡ x
zero_plus x = omega (arith, ints)

pub coefficient_of-append : (ts us : List Term) (r : ℕ) → coefficient_of (ts ++ us) r ≡ coefficient_of ts r +ℤ coefficient_of us r
coefficient_of-append [] us r = sym (zero_plus (coefficient_of us r))
coefficient_of-append (t ∷ ts) us r = ap (λ x. own r t +ℤ x) (coefficient_of-append ts us r) ∙ sym (assoc (own r t) (coefficient_of ts r) (coefficient_of us r))

coefficient_of-insert : (ts : List Term) (k : ℕ) (t : Term) (r : ℕ) → coefficient_of (insert ts k t) r ≡ coefficient_of (t ∷ ts) r
coefficient_of-insert [] zero t r = refl
coefficient_of-insert [] (suc k) t r = refl
coefficient_of-insert (u ∷ us) zero t r = refl
coefficient_of-insert (u ∷ us) (suc k) t r = ap (λ x. own r u +ℤ x) (coefficient_of-insert us k t r) ∙ swap (own r u) (own r t) (coefficient_of us r)

-- a term of the register takes the amount
abbrev term_at : ℕ → ℤ → Term
term_at register coefficient = record { register = record { 0 = register }; coefficient = coefficient }

abbrev more : Term → ℤ → Term
more u amount = term_at u.register.0 (u.coefficient +ℤ amount)

own_more : (r : ℕ) (u t : Term) → u.register.0 ≡ t.register.0 → own r (more u t.coefficient) ≡ own r t +ℤ own r u
own_more r u t same = elim (cases_eq t.register.0 r) [
  | inl e ↦ rw (eq-eqb t.register.0 r e, eq-eqb u.register.0 r (same ∙ e)) (omega (arith, ints))
  | inr ne ↦ rw (ne_eqb t.register.0 r ne, ne_eqb u.register.0 r (λ (e : u.register.0 ≡ r). ne (sym same ∙ e))) (omega (arith, ints))
]

coefficient_of-more : (ts : List Term) (k : ℕ) (d t : Term) (r : ℕ) → k < length ts → (get_or ts k d).register.0 ≡ t.register.0 → coefficient_of (set ts k (more (get_or ts k d) t.coefficient)) r ≡ coefficient_of (t ∷ ts) r
coefficient_of-more [] k d t r within same = absurd (omega arith)
coefficient_of-more (u ∷ us) zero d t r within same = ap (λ x. x +ℤ coefficient_of us r) (own_more r u t same) ∙ assoc (own r t) (own r u) (coefficient_of us r)
coefficient_of-more (u ∷ us) (suc k) d t r within same =
    ap (λ x. own r u +ℤ x) (coefficient_of-more us k d t r (omega arith) same) ∙ swap (own r u) (own r t) (coefficient_of us r)

-- ---- registers rise

rising-more : (ts : List Term) (k : ℕ) (d u : Term) → k < length ts → (get_or ts k d).register.0 ≡ u.register.0 → IsRising ts → IsRising (set ts k u)
rising-more [] k d u within same rising = absurd (omega arith)
rising-more (t ∷ ts) zero d u within same rising = (subst (λ (n : ℕ). All (λ (w : Term). n < w.register.0) ts) same rising.0, rising.1)
rising-more (t ∷ ts) (suc k) d u within same rising =
    let above : t.register.0 < u.register.0 = subst (λ (n : ℕ). t.register.0 < n) same (All-get_or (λ (w : Term). t.register.0 < w.register.0) ts k d (omega arith) rising.0) in
    (All-set (λ (w : Term). t.register.0 < w.register.0) ts k u above rising.0, rising-more ts k d u (omega arith) same rising.1)

abbrev place : Term → List Term → ℕ
place t ts = prefix_len (is_below t.register.0) ts

-- no term at the place has the register
abbrev pub AbsentAt : ℕ → Term → List Term → Type 0
AbsentAt k t ts = (d : Term) → k < length ts → (get_or ts k d).register.0 ≡ t.register.0 → ⊥

inside : (k k' : ℕ) (t u : Term) (us : List Term) → k ≡ 1 + k' → AbsentAt k t (u ∷ us) → AbsentAt k' t us
inside k k' t u us e absent =
    let e2 : k ≡ suc k' = omega arith in
    let there : AbsentAt (suc k') t (u ∷ us) = subst (λ (n : ℕ). AbsentAt n t (u ∷ us)) e2 absent in
    λ d w same. there d (omega arith) same

before_all : (k : ℕ) (t u : Term) (us : List Term) → k ≡ 0 → ltb u.register.0 t.register.0 ≡ false → AbsentAt k t (u ∷ us) → IsRising (u ∷ us) → All (λ w. t.register.0 < w.register.0) (u ∷ us)
before_all k t u us e below absent rising =
    let there : AbsentAt 0 t (u ∷ us) = subst (λ (n : ℕ). AbsentAt n t (u ∷ us)) e absent in
    let differs : u.register.0 ≡ t.register.0 → ⊥ = there t (omega arith) in
    let le : t.register.0 ≤ u.register.0 = grind (arith, nat_tests) in
    let first : t.register.0 < u.register.0 = omega (arith, le, differs) in
    All-cons (λ (w : Term). t.register.0 < w.register.0) u us first (All-weaker (λ (w : Term). u.register.0 < w.register.0) (λ (w : Term). t.register.0 < w.register.0) (λ (w : Term) (h : u.register.0 < w.register.0). omega arith) us rising.0)

pub rising-insert : (t : Term) (ts : List Term) (k : ℕ) → k ≡ place t ts → AbsentAt k t ts → IsRising ts → IsRising (insert ts k t)
rising-insert t [] k e absent rising = subst (λ (n : ℕ). IsRising (insert [] n t)) (sym e) (All-nil (λ (w : Term). t.register.0 < w.register.0), tt)
rising-insert t (u ∷ us) k e absent rising =
    elim (ltb u.register.0 t.register.0) as (λ v. ltb u.register.0 t.register.0 ≡ v → k ≡ cond v (1 + place t us) 0 → IsRising (insert (u ∷ us) k t)) [
      | true ↦ λ (below : ltb u.register.0 t.register.0 ≡ true) (at : k ≡ 1 + place t us).
          let lt : u.register.0 < t.register.0 = ltb-true u.register.0 t.register.0 below in
          let P : Term → Type 0 = λ w. u.register.0 < w.register.0 in
          let m : ℕ = place t us in
          let all : All P (insert us m t) = All-append P (take m us) (t ∷ drop m us) (All-take P m us rising.0) (All-cons P t (drop m us) lt (All-drop P m us rising.0)) in
          let rest : IsRising (insert us m t) = rising-insert t us m refl (inside k m t u us at absent) rising.1 in
          let whole : IsRising (insert (u ∷ us) (suc m) t) = (all, rest) in
          let one : suc m ≡ k = omega arith in
          subst (λ (n : ℕ). IsRising (insert (u ∷ us) n t)) one whole
      | false ↦ λ (below : ltb u.register.0 t.register.0 ≡ false) (at : k ≡ 0).
          let whole : IsRising (t ∷ u ∷ us) = (before_all k t u us at below absent rising, rising) in
          subst (λ (n : ℕ). IsRising (insert (u ∷ us) n t)) (sym at) whole
    ] refl e

pub absent_none : (t : Term) (ts : List Term) (k : ℕ) → k ≡ place t ts → AbsentAt k t ts → IsRising ts → coefficient_of ts t.register.0 ≡ pos 0
absent_none t [] k e absent rising = refl
absent_none t (u ∷ us) k e absent rising =
    elim (ltb u.register.0 t.register.0) as (λ v. ltb u.register.0 t.register.0 ≡ v → k ≡ cond v (1 + place t us) 0 → coefficient_of (u ∷ us) t.register.0 ≡ pos 0) [
      | true ↦ λ (below : ltb u.register.0 t.register.0 ≡ true) (at : k ≡ 1 + place t us).
          let lt : u.register.0 < t.register.0 = ltb-true u.register.0 t.register.0 below in
          let differs : u.register.0 ≡ t.register.0 → ⊥ = λ (e : u.register.0 ≡ t.register.0). omega arith in
          rw (ne_eqb u.register.0 t.register.0 differs, absent_none t us (place t us) refl (inside k (place t us) t u us at absent) rising.1) refl
      | false ↦ λ (below : ltb u.register.0 t.register.0 ≡ false) (at : k ≡ 0).
          none_above (u ∷ us) t.register.0 (before_all k t u us at below absent rising)
    ] refl e

-- ---- what is read at the place

own_none : (x : Term) (r : ℕ) → None ≡ own_coefficient r (Some x) → x.register.0 ≡ r → ⊥
own_none x r h same =
    let e : None ≡ Some x.coefficient = h ∙ ap (λ (b : Bool). cond b (Some x.coefficient) None) (eq-eqb x.register.0 r same) in
    cc

own_some : (x : Term) (r : ℕ) (c : ℤ) → Some c ≡ own_coefficient r (Some x) → (x.register.0 ≡ r) × (c ≡ x.coefficient)
own_some x r c h = elim (cases_eq x.register.0 r) [
  | inl e ↦
      let is : Some c ≡ Some x.coefficient = h ∙ ap (λ (b : Bool). cond b (Some x.coefficient) None) (eq-eqb x.register.0 r e) in
      (e, cc)
  | inr ne ↦
      let is : Some c ≡ None = h ∙ ap (λ (b : Bool). cond b (Some x.coefficient) None) (ne_eqb x.register.0 r ne) in
      absurd cc
]

pub at_none : (ts : List Term) (k : ℕ) (t : Term) → None ≡ coefficient_at ts k t.register.0 → AbsentAt k t ts
at_none ts k t none d within same = elim (slice_get_cases ts k).1 [
  | inl f ↦
      let x : Term = f.0 in
      let read : get_or ts k d ≡ x = get_or_from_slice_get ts k x d f.2 in
      own_none x t.register.0 (none ∙ ap (own_coefficient t.register.0) f.2) (ap (λ (u : Term). u.register.0) (sym read) ∙ same)
  | inr f ↦ omega (arith, f.0, within)
]

-- the term at the place is the register's own
pub record IsOwn (ts : List Term) (k : ℕ) (r : ℕ) (c : ℤ) (d : Term) : Type 0 where
  pub within : k < length ts
  pub register : (get_or ts k d).register.0 ≡ r
  pub coefficient : c ≡ (get_or ts k d).coefficient

pub at_some : (ts : List Term) (k r : ℕ) (c : ℤ) (d : Term) → Some c ≡ coefficient_at ts k r → IsOwn ts k r c d
at_some ts k r c d some = elim (slice_get_cases ts k).1 [
  | inl f ↦
      let x : Term = f.0 in
      let read : get_or ts k d ≡ x = get_or_from_slice_get ts k x d f.2 in
      let is = own_some x r c (some ∙ ap (own_coefficient r) f.2) in
      record {
        within = f.1;
        register = ap (λ (u : Term). u.register.0) read ∙ is.0;
        coefficient = is.1 ∙ ap (λ (u : Term). u.coefficient) (sym read);
      }
  | inr f ↦ let is : Some c ≡ None = some ∙ ap (own_coefficient r) f.1 in absurd cc
]

-- ---- the two ways to add a term

abbrev pub new_term : RegisterId → ℤ → Term
new_term register coefficient = record { register = register; coefficient = coefficient }

pub small_fits : (z : ℤ) → unsigned_abs z < 2 ^ 24 → FitsSigned w64 z
small_fits z h = omega (arith, ints)

as_read : (z sum : ℤ) → unsigned_abs z < 2 ^ 24 → z ≡ sum → to_z w64 (of_z w64 z) ≡ sum
as_read z sum small e = to_z-of_z w64 z (small_fits z small) ∙ e

pub added_new : (ts : List Term) (k : ℕ) (register : RegisterId) (amount z : ℤ) → k ≡ prefix_len (is_below register.0) ts → None ≡ coefficient_at ts k register.0 → IsRising ts → AreSmall ts →
    z ≡ pos 0 +ℤ amount → unsigned_abs z < 2 ^ 24 → IsTermAdded (record { register = register; coefficient = amount }) ts (insert ts k (record { register = register; coefficient = to_z w64 (of_z w64 z) }))
added_new ts k register amount z e none rising small sum bounded =
    let t : Term = record { register = register; coefficient = amount } in
    let read : to_z w64 (of_z w64 z) ≡ amount = as_read z amount bounded (sum ∙ zero_plus amount) in
    let fits : unsigned_abs amount < 2 ^ 24 = rw (sum ∙ zero_plus amount) at bounded in
    let absent : AbsentAt k t ts = at_none ts k t none in
    let P : Term → Type 0 = λ u. unsigned_abs u.coefficient < 2 ^ 24 in
    let whole : IsTermAdded t ts (insert ts k t) = record {
      same = coefficient_of-insert ts k t;
      rising = rising-insert t ts k e absent rising;
      small = All-append P (take k ts) (t ∷ drop k ts) (All-take P k ts small) (All-cons P t (drop k ts) fits (All-drop P k ts small));
    } in
    subst (λ (c : ℤ). IsTermAdded t ts (insert ts k (record { register = register; coefficient = c }))) (sym read) whole

pub added_more : (ts : List Term) (k : ℕ) (register : RegisterId) (amount c z : ℤ) → Some c ≡ coefficient_at ts k register.0 → IsRising ts → AreSmall ts →
    z ≡ c +ℤ amount → unsigned_abs z < 2 ^ 24 → IsTermAdded (record { register = register; coefficient = amount }) ts (set ts k (record { register = register; coefficient = to_z w64 (of_z w64 z) }))
added_more ts k register amount c z some rising small sum bounded =
    let t : Term = record { register = register; coefficient = amount } in
    let own : IsOwn ts k register.0 c t = at_some ts k register.0 c t some in
    let u : Term = record { register = register; coefficient = z } in
    let read : to_z w64 (of_z w64 z) ≡ z = as_read z z bounded refl in
    let g : Term = get_or ts k t in
    let e : g.coefficient +ℤ amount ≡ z = ap (λ x. x +ℤ amount) (sym own.coefficient) ∙ sym sum in
    let is : term_at g.register.0 (g.coefficient +ℤ amount) ≡ term_at register.0 z = ap (λ n. term_at n (g.coefficient +ℤ amount)) own.register ∙ ap (term_at register.0) e in
    let whole : IsTermAdded t ts (set ts k u) = record {
      same = λ r. ap (λ (w : Term). coefficient_of (set ts k w) r) (sym is) ∙ coefficient_of-more ts k t t r own.within own.register;
      rising = rising-more ts k t u own.within own.register rising;
      small = All-set (λ (w : Term). unsigned_abs w.coefficient < 2 ^ 24) ts k u bounded small;
    } in
    subst (λ (x : ℤ). IsTermAdded t ts (set ts k (record { register = register; coefficient = x }))) (sym read) whole

-- ---- and why it may be refused

plain : (amount : ℤ) → 2 ^ 24 ≤ unsigned_abs (pos 0 +ℤ amount) → 2 ^ 24 ≤ unsigned_abs (amount +ℤ pos 0)
plain amount large = omega (arith, ints)

turned : (c amount : ℤ) → 2 ^ 24 ≤ unsigned_abs (c +ℤ amount) → 2 ^ 24 ≤ unsigned_abs (amount +ℤ c)
turned c amount large = omega (arith, ints)

pub none_refused : (ts : List Term) (k : ℕ) (register : RegisterId) (amount : ℤ) → k ≡ prefix_len (is_below register.0) ts → None ≡ coefficient_at ts k register.0 → IsRising ts →
    2 ^ 24 ≤ unsigned_abs (pos 0 +ℤ amount) → 2 ^ 24 ≤ unsigned_abs (coefficient_of (new_term register amount ∷ ts) register.0)
none_refused ts k register amount e none rising large =
    let t : Term = new_term register amount in
    rw (eq-eqb register.0 register.0 refl, absent_none t ts k e (at_none ts k t none) rising) (plain amount large)

pub some_refused : (ts : List Term) (k : ℕ) (register : RegisterId) (amount c : ℤ) → Some c ≡ coefficient_at ts k register.0 → IsRising ts →
    2 ^ 24 ≤ unsigned_abs (c +ℤ amount) → 2 ^ 24 ≤ unsigned_abs (coefficient_of (new_term register amount ∷ ts) register.0)
some_refused ts k register amount c some rising large =
    let t : Term = new_term register amount in
    let own : IsOwn ts k register.0 c t = at_some ts k register.0 c t some in
    let is : coefficient_of ts register.0 ≡ c = ap (coefficient_of ts) (sym own.register) ∙ term_coefficient ts k t rising own.within ∙ sym own.coefficient in
    rw (eq-eqb register.0 register.0 refl, is) (turned c amount large)

-- ---- the terms themselves

bounded_true : (z : ℤ) → unsigned_abs z < 2 ^ 24 → is_bounded z ≡ true
bounded_true z h = lt-ltb (unsigned_abs z) 16777216 h

bounded_false : (z : ℤ) → 2 ^ 24 ≤ unsigned_abs z → is_bounded z ≡ false
bounded_false z h = grind (arith, nat_tests)

at_place : (ts : List Term) (k : ℕ) (register : RegisterId) (amount : ℤ) (read : Option ℤ) → k ≡ prefix_len (is_below register.0) ts → read ≡ coefficient_at ts k register.0 → placed ts register amount ≡ placed_at ts k register amount read
unfolding placed
at_place ts k register amount read e is =
    let P : ℕ → Type 0 = λ n. placed_at ts n register amount (coefficient_at ts n register.0) ≡ placed_at ts k register amount read in
    subst P e (ap (placed_at ts k register amount) (sym is))

pub placed_new : (ts : List Term) (k : ℕ) (register : RegisterId) (amount z : ℤ) → k ≡ prefix_len (is_below register.0) ts → None ≡ coefficient_at ts k register.0 →
    z ≡ pos 0 +ℤ amount → unsigned_abs z < 2 ^ 24 → placed ts register amount ≡ Some (insert ts k (record { register = register; coefficient = to_z w64 (of_z w64 z) }))
placed_new ts k register amount z e none sum bounded =
    let small : unsigned_abs (pos 0 +ℤ amount) < 2 ^ 24 = subst (λ (x : ℤ). unsigned_abs x < 2 ^ 24) sum bounded in
    at_place ts k register amount None e none
    ∙ ap (λ (b : Bool). cond b (Some (insert ts k (new_term register (pos 0 +ℤ amount)))) None) (bounded_true (pos 0 +ℤ amount) small)
    ∙ ap (λ (x : ℤ). Some (insert ts k (new_term register x))) (sym (as_read z (pos 0 +ℤ amount) bounded sum))

pub placed_more : (ts : List Term) (k : ℕ) (register : RegisterId) (amount c z : ℤ) → k ≡ prefix_len (is_below register.0) ts → Some c ≡ coefficient_at ts k register.0 →
    z ≡ c +ℤ amount → unsigned_abs z < 2 ^ 24 → placed ts register amount ≡ Some (set ts k (record { register = register; coefficient = to_z w64 (of_z w64 z) }))
placed_more ts k register amount c z e some sum bounded =
    let small : unsigned_abs (c +ℤ amount) < 2 ^ 24 = subst (λ (x : ℤ). unsigned_abs x < 2 ^ 24) sum bounded in
    at_place ts k register amount (Some c) e some
    ∙ ap (λ (b : Bool). cond b (Some (set ts k (new_term register (c +ℤ amount)))) None) (bounded_true (c +ℤ amount) small)
    ∙ ap (λ (x : ℤ). Some (set ts k (new_term register x))) (sym (as_read z (c +ℤ amount) bounded sum))

pub placed_refused : (ts : List Term) (k : ℕ) (register : RegisterId) (amount : ℤ) → k ≡ prefix_len (is_below register.0) ts → None ≡ coefficient_at ts k register.0 →
    2 ^ 24 ≤ unsigned_abs (pos 0 +ℤ amount) → placed ts register amount ≡ None
placed_refused ts k register amount e none large =
    at_place ts k register amount None e none ∙ ap (λ (b : Bool). cond b (Some (insert ts k (new_term register (pos 0 +ℤ amount)))) None) (bounded_false (pos 0 +ℤ amount) large)

pub placed_more_refused : (ts : List Term) (k : ℕ) (register : RegisterId) (amount c : ℤ) → k ≡ prefix_len (is_below register.0) ts → Some c ≡ coefficient_at ts k register.0 →
    2 ^ 24 ≤ unsigned_abs (c +ℤ amount) → placed ts register amount ≡ None
placed_more_refused ts k register amount c e some large =
    at_place ts k register amount (Some c) e some ∙ ap (λ (b : Bool). cond b (Some (set ts k (new_term register (c +ℤ amount)))) None) (bounded_false (c +ℤ amount) large)

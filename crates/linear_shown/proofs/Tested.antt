-- The test answers what is shown.
use Rattle.std.proofs.Common.{◌≡◌, ◌⊎◌, ◌∙◌, ℕ, zero, suc, ◌<◌, pos, ◌+ℤ◌, ◌*ℤ◌, Bool, true, false, T, List, [], ◌∷◌, length, get_or, inl, inr, sym, ap, refl, subst, arith}
use Rattle.std.specs.Bool.{Decides}
use Rattle.std.specs.List.{All, Contains, list_any}
use Rattle.std.specs.Int.RustNames.{unsigned_abs}
use Rattle.std.proofs.lemmas.Bool.{cases_eq, ne_eqb, and_parts, and_from}
use Rattle.std.proofs.lemmas.Bool.Decides.{Decides-int_eq}
use Rattle.std.proofs.lemmas.Int.{ints}
use Rattle.std.proofs.lemmas.List.{length-map, get_or-map}
use Rattle.std.proofs.lemmas.List.Elements.{All-head, All-tail}
use Rattle.std.proofs.lemmas.List.Folds.{Any-from_list_any, list_any-from_Any}
use Rattle.std.proofs.lemmas.List.Sums.{AllPass-from_list_all, list_all-from_AllPass}
use Rattle.std.proofs.Math.IntN.{zero-*ℤ}
use lib.Signed.{le_z_yes}
use Rattle.linear.specs.declared.form.Term.{Term}
use Rattle.linear.specs.declared.form.Fact.{Fact}
use Rattle.linear.specs.Terms.{Combination, coefficient_of, constant_form}
use Rattle.linear_shown.specs.Shown.{IsSum, IsFactor, IsShown}
use Rattle.linear_shown.specs.Sides.{sides}
use Rattle.linear_shown.specs.Tested.{agrees, agree_along, is_sum, factors_of, is_pair, is_shown}

pub true_from_T : (b : Bool) → T b → b ≡ true
true_from_T true t = refl
true_from_T false t = absurd t

pub T_from_true : (b : Bool) → b ≡ true → T b
T_from_true true e = tt
T_from_true false e = cc

-- a register is named, or has no coefficient
named_or_zero : (P : ℕ → Type 0) (ts : List Term) (r : ℕ) → All (λ t. P t.register.0) ts → P r ⊎ (coefficient_of ts r ≡ pos 0)
named_or_zero P [] r all = inr refl
named_or_zero P (t ∷ ts) r all = elim (cases_eq t.register.0 r) [
  | inl e ↦ inl (subst P e (All-head (λ (t : Term). P t.register.0) t ts all))
  | inr ne ↦ elim (named_or_zero P ts r (All-tail (λ (t : Term). P t.register.0) t ts all)) [
    | inl h ↦ inl h
    | inr zero_rest ↦ inr (rw (ne_eqb t.register.0 r ne, zero_rest) (omega (arith, ints)))
  ]
]

abbrev AgreesAt : Combination → ℕ → Combination → ℕ → Combination → ℕ → Type 0
AgreesAt e a f b g r = coefficient_of e.terms r ≡ (pos a *ℤ coefficient_of f.terms r) +ℤ (pos b *ℤ coefficient_of g.terms r)

agree_all : (ts : List Term) (e : Combination) (a : ℕ) (f : Combination) (b : ℕ) (g : Combination) → agree_along ts e a f b g ≡ true → All (λ t. AgreesAt e a f b g t.register.0) ts
agree_all ts e a f b g h = λ k d l. (Decides-int_eq _ _).0 (AllPass-from_list_all (λ (t : Term). agrees e a f b g t.register.0) ts h k d l)

agree_any : (ts : List Term) (e : Combination) (a : ℕ) (f : Combination) (b : ℕ) (g : Combination) → ((r : ℕ) → AgreesAt e a f b g r) → agree_along ts e a f b g ≡ true
agree_any ts e a f b g h = list_all-from_AllPass (λ (t : Term). agrees e a f b g t.register.0) ts (λ k d l. (Decides-int_eq _ _).1 (h (get_or ts k d).register.0))

agree_everywhere : (e : Combination) (a : ℕ) (f : Combination) (b : ℕ) (g : Combination) → agree_along e.terms e a f b g ≡ true → agree_along f.terms e a f b g ≡ true → agree_along g.terms e a f b g ≡ true → (r : ℕ) → AgreesAt e a f b g r
agree_everywhere e a f b g at_e at_f at_g r =
    elim (named_or_zero (AgreesAt e a f b g) e.terms r (agree_all e.terms e a f b g at_e)) [
      | inl h ↦ h
      | inr zero_e ↦ elim (named_or_zero (AgreesAt e a f b g) f.terms r (agree_all f.terms e a f b g at_f)) [
        | inl h ↦ h
        | inr zero_f ↦ elim (named_or_zero (AgreesAt e a f b g) g.terms r (agree_all g.terms e a f b g at_g)) [
          | inl h ↦ h
          | inr zero_g ↦ rw (zero_e, zero_f, zero_g) (omega (arith, ints))
        ]
      ]
    ]

sum_from : (e f g : Combination) (a b : ℕ) → is_sum e f g a b ≡ true → IsSum e a f b g
sum_from e f g a b h =
    let halves = and_parts _ _ h in
    let first = and_parts _ _ halves.0 in
    let second = and_parts _ _ first.1 in
    record {
      terms = agree_everywhere e a f b g first.0 second.0 second.1;
      constant = le_z_yes (T_from_true _ halves.1);
    }

sum_test : (e f g : Combination) (a b : ℕ) → IsSum e a f b g → is_sum e f g a b ≡ true
sum_test e f g a b s =
    and_from _ _
    (and_from _ _ (agree_any e.terms e a f b g s.terms) (and_from _ _ (agree_any f.terms e a f b g s.terms) (agree_any g.terms e a f b g s.terms)))
    (true_from_T _ s.constant.le)

-- ---- factors

factor_at : (e : Combination) (k a : ℕ) (d : Term) → k < length e.terms → get_or (factors_of e) (suc k) a ≡ unsigned_abs (coefficient_of e.terms (get_or e.terms k d).register.0)
factor_at e k a d within = get_or-map (λ (t : Term). unsigned_abs (coefficient_of e.terms t.register.0)) e.terms k d a within

no_term : Term
no_term = record { register = record { 0 = 0 }; coefficient = pos 0 }

factor_from : (e : Combination) (a : ℕ) → Contains (factors_of e) a → IsFactor e a
factor_from e a (zero, within, is) = inl (sym is)
factor_from e a (suc k, within, is) =
    let below : k < length e.terms = omega (arith, within, length-map e.terms (λ (t : Term). unsigned_abs (coefficient_of e.terms t.register.0))) in
    inr ((get_or e.terms k no_term).register.0, sym is ∙ factor_at e k a no_term below)

-- a factor is among those that are tried, or is 0
factor_tried : (e : Combination) (a : ℕ) → IsFactor e a → Contains (factors_of e) a ⊎ (a ≡ 0)
factor_tried e a (inl one) = inl (0, omega arith, sym one)
factor_tried e a (inr (r, is)) = elim (named_or_zero (λ r. Contains (factors_of e) (unsigned_abs (coefficient_of e.terms r))) e.terms r (λ k d l. (suc k, omega (arith, l, length-map e.terms (λ (t : Term). unsigned_abs (coefficient_of e.terms t.register.0))), factor_at e k _ d l))) [
  | inl h ↦ inl (subst (Contains (factors_of e)) (sym is) h)
  | inr none ↦ inr (is ∙ ap unsigned_abs none)
]

-- a factor that is tried with its fact; a factor 0 makes the fact count for nothing
record Counts (facts : List Fact) (e f : Combination) (a : ℕ) : Type 0 where
  side : Combination
  factor : ℕ
  side_is : Contains (sides facts) side
  factor_is : Contains (factors_of e) factor
  terms : (r : ℕ) → pos a *ℤ coefficient_of f.terms r ≡ pos factor *ℤ coefficient_of side.terms r
  constant : pos a *ℤ f.constant ≡ pos factor *ℤ side.constant

counted : (facts : List Fact) (e f : Combination) (a : ℕ) → Contains (sides facts) f → IsFactor e a → Counts facts e f a
counted facts e f a in_f is = elim (factor_tried e a is) [
  | inl tried ↦ record { side = f; factor = a; side_is = in_f; factor_is = tried; terms = λ r. refl; constant = refl }
  | inr e0 ↦ record {
    side = constant_form (pos 0);
    factor = 1;
    side_is = (0, omega arith, refl);
    factor_is = (0, omega arith, refl);
    terms = λ r. ap (λ (n : ℕ). pos n *ℤ coefficient_of f.terms r) e0 ∙ zero-*ℤ (coefficient_of f.terms r);
    constant = ap (λ (n : ℕ). pos n *ℤ f.constant) e0 ∙ zero-*ℤ f.constant;
  }
]

-- ---- the test

passes : {X : Type 0} (p : X → Bool) (xs : List X) (x : X) → Contains xs x → p x ≡ true → list_any p xs ≡ true
passes p xs x (k, within, is) h = list_any-from_Any p xs (k, x, within, is, h)

pub shown_from_test : (facts : List Fact) (e : Combination) → is_shown facts e ≡ true → IsShown facts e
unfolding is_shown
shown_from_test facts e h =
    let f = Any-from_list_any (λ f. list_any (is_pair e f) (sides facts)) (sides facts) h in
    let g = Any-from_list_any (is_pair e f.1) (sides facts) f.4 in
    let a = Any-from_list_any (λ a. list_any (is_sum e f.1 g.1 a) (factors_of e)) (factors_of e) g.4 in
    let b = Any-from_list_any (is_sum e f.1 g.1 a.1) (factors_of e) a.4 in
    record {
      f = f.1;
      g = g.1;
      a = a.1;
      b = b.1;
      f_is = (f.0, f.2, f.3);
      g_is = (g.0, g.2, g.3);
      a_is = factor_from e a.1 (a.0, a.2, a.3);
      b_is = factor_from e b.1 (b.0, b.2, b.3);
      sum = sum_from e f.1 g.1 a.1 b.1 b.4;
    }

tested : (facts : List Fact) (e : Combination) (s : IsShown facts e) → Counts facts e s.f s.a → Counts facts e s.g s.b → is_shown facts e ≡ true
unfolding is_shown
tested facts e s f g =
    let sum : IsSum e f.factor f.side g.factor g.side = record {
      terms = λ r. s.sum.terms r ∙ ap (λ x. x +ℤ (pos s.b *ℤ coefficient_of s.g.terms r)) (f.terms r) ∙ ap (λ x. (pos f.factor *ℤ coefficient_of f.side.terms r) +ℤ x) (g.terms r);
      constant = rw (← f.constant, ← g.constant) s.sum.constant;
    } in
    passes (λ f. list_any (is_pair e f) (sides facts)) (sides facts) f.side f.side_is
    (passes (is_pair e f.side) (sides facts) g.side g.side_is
    (passes (λ a. list_any (is_sum e f.side g.side a) (factors_of e)) (factors_of e) f.factor f.factor_is
    (passes (is_sum e f.side g.side f.factor) (factors_of e) g.factor g.factor_is (sum_test e f.side g.side f.factor g.factor sum))))

pub shown_passes : (facts : List Fact) (e : Combination) → IsShown facts e → is_shown facts e ≡ true
shown_passes facts e s = tested facts e s (counted facts e s.f s.a s.f_is s.a_is) (counted facts e s.g s.b s.g_is s.b_is)

pub decides_shown : (facts : List Fact) (e : Combination) → Decides (is_shown facts e) (IsShown facts e)
decides_shown facts e = (shown_from_test facts e, shown_passes facts e)

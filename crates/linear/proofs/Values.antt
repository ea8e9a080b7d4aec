-- What forms say of values.
use Rattle.std.proofs.Common.{◌≡◌, ◌≢◌, ◌∙◌, ℕ, ◌<◌, ◌≤◌, ◌+◌, ◌*◌, zero, suc, ℤ, pos, negsuc, ◌+ℤ◌, ◌*ℤ◌, ◌≤ℤ◌, cond, eqb, List, [], ◌∷◌, ◌++◌, sym, ap, refl, inl, inr, arith}
use Rattle.std.proofs.Math.IntN.{zero-*ℤ, *ℤ-zero}
use Rattle.std.specs.List.{All}
use Rattle.std.proofs.lemmas.Int.{ints}
use Rattle.std.proofs.lemmas.Bool.{cases_eq, eq-eqb, ne_eqb}
use Rattle.std.proofs.lemmas.List.Elements.{All-head, All-tail}
use borrow.Author.Differences.{up, down, sum_is_lem, product_is}
use Rattle.linear.specs.Forms.{register_form, plus, scaled_terms, scaled, minus, put_terms, put, value_of, value, Holds}
use Rattle.linear.specs.Terms.{Combination, coefficient_of, constant_form}
use Rattle.linear.specs.declared.form.Term.{Term}

pub distributes : (a b c : ℤ) → a *ℤ (b +ℤ c) ≡ (a *ℤ b) +ℤ (a *ℤ c)
distributes a b c = omega (arith, ints, ap (λ x. up a * x) (sum_is_lem b c), ap (λ x. down a * x) (sum_is_lem b c))

pub distributes_right : (a b c : ℤ) → (a +ℤ b) *ℤ c ≡ (a *ℤ c) +ℤ (b *ℤ c)
distributes_right a b c = omega (arith, ints, ap (λ x. up c * x) (sum_is_lem a b), ap (λ x. down c * x) (sum_is_lem a b))

pub associates : (a b c : ℤ) → (a *ℤ b) *ℤ c ≡ a *ℤ (b *ℤ c)
associates a b c = omega (
  arith,
  ints,
  ap (λ x. up c * x) (product_is a b).0,
  ap (λ x. up c * x) (product_is a b).1,
  ap (λ x. down c * x) (product_is a b).0,
  ap (λ x. down c * x) (product_is a b).1,
  ap (λ x. up a * x) (product_is b c).0,
  ap (λ x. up a * x) (product_is b c).1,
  ap (λ x. down a * x) (product_is b c).0,
  ap (λ x. down a * x) (product_is b c).1,
)

-- ---- sums over the registers below a number

pub sum_below : ℕ → (ℕ → ℤ) → ℤ
sum_below zero f = pos 0
sum_below (suc n) f = f n +ℤ sum_below n f

pub sum_below_same : (n : ℕ) (f g : ℕ → ℤ) → ((r : ℕ) → r < n → f r ≡ g r) → sum_below n f ≡ sum_below n g
unfolding sum_below
sum_below_same zero f g same = refl
sum_below_same (suc n) f g same = rw (same n (omega arith), sum_below_same n f g (λ r l. same r (omega (arith, l))))

pub sum_below_add : (n : ℕ) (f g : ℕ → ℤ) → sum_below n (λ r. f r +ℤ g r) ≡ sum_below n f +ℤ sum_below n g
unfolding sum_below
sum_below_add zero f g = refl
sum_below_add (suc n) f g = rw (sum_below_add n f g) (omega (arith, ints))

pub sum_below_scale : (n : ℕ) (a : ℤ) (f : ℕ → ℤ) → sum_below n (λ r. a *ℤ f r) ≡ a *ℤ sum_below n f
unfolding sum_below
sum_below_scale zero a f = sym (*ℤ-zero a)
sum_below_scale (suc n) a f = rw (sum_below_scale n a f) (sym (distributes a (f n) (sum_below n f)))

pub sum_below_zero : (n : ℕ) (f : ℕ → ℤ) → ((r : ℕ) → r < n → f r ≡ pos 0) → sum_below n f ≡ pos 0
unfolding sum_below
sum_below_zero zero f none = refl
sum_below_zero (suc n) f none = rw (none n (omega arith), sum_below_zero n f (λ r l. none r (omega (arith, l))))

-- one register alone
pub sum_below_one : (n k : ℕ) (f : ℕ → ℤ) → k < n → ((r : ℕ) → r ≢ k → f r ≡ pos 0) → sum_below n f ≡ f k
unfolding sum_below
sum_below_one zero k f l others = absurd (omega arith)
sum_below_one (suc n) k f l others = elim (cases_eq k n) [
  | inl e ↦ rw (e, sum_below_zero n f (λ r w. others r (omega (arith, w, e)))) (omega (arith, ints))
  | inr ne ↦ rw (others n (λ e. ne (sym e)), sum_below_one n k f (omega (arith, l, ne)) others) (omega (arith, ints))
]

-- ---- the value of terms by their coefficients: no order is needed

pub top : List Term → ℕ
top [] = 0
top (t ∷ ts) = (t.register.0 + 1) + top ts

pub value_is_sum : (v : ℕ → ℤ) (n : ℕ) (ts : List Term) → top ts ≤ n → value_of v ts ≡ sum_below n (λ r. coefficient_of ts r *ℤ v r)
unfolding top
value_is_sum v n [] below = sym (sum_below_zero n (λ r. pos 0 *ℤ v r) (λ r l. zero-*ℤ (v r)))
value_is_sum v n (t ∷ ts) below =
    let k : ℕ = t.register.0 in
    let within : k < n = omega (arith, below) in
    let alone : ℕ → ℤ = λ r. cond (eqb k r) t.coefficient (pos 0) *ℤ v r in
    let rest : ℕ → ℤ = λ r. coefficient_of ts r *ℤ v r in
    let head : sum_below n alone ≡ t.coefficient *ℤ v k = sum_below_one n k alone within (λ r ne. rw (ne_eqb k r (λ e. ne (sym e))) (zero-*ℤ (v r))) ∙ (rw (eq-eqb k k refl)) in
    let tail : value_of v ts ≡ sum_below n rest = value_is_sum v n ts (omega (arith, below)) in
    let split : sum_below n (λ r. coefficient_of (t ∷ ts) r *ℤ v r) ≡ sum_below n (λ r. alone r +ℤ rest r) =
    sum_below_same n (λ r. coefficient_of (t ∷ ts) r *ℤ v r) (λ r. alone r +ℤ rest r) (λ r l. distributes_right (cond (eqb k r) t.coefficient (pos 0)) (coefficient_of ts r) (v r)) in
    rw (split, sum_below_add n alone rest, head, ← tail)

-- terms that agree at each register agree in value
pub value_combines : (v : ℕ → ℤ) (e : List Term) (a : ℕ) (f : List Term) (b : ℕ) (g : List Term) →
    ((r : ℕ) → coefficient_of e r ≡ (pos a *ℤ coefficient_of f r) +ℤ (pos b *ℤ coefficient_of g r)) → value_of v e ≡ (pos a *ℤ value_of v f) +ℤ (pos b *ℤ value_of v g)
value_combines v e a f b g agree =
    let n : ℕ = top e + top f + top g in
    let at_e : ℕ → ℤ = λ r. coefficient_of e r *ℤ v r in
    let at_f : ℕ → ℤ = λ r. coefficient_of f r *ℤ v r in
    let at_g : ℕ → ℤ = λ r. coefficient_of g r *ℤ v r in
    let each : (r : ℕ) → r < n → at_e r ≡ (pos a *ℤ at_f r) +ℤ (pos b *ℤ at_g r) =
    λ r l. ap (λ z. z *ℤ v r) (agree r) ∙ distributes_right (pos a *ℤ coefficient_of f r) (pos b *ℤ coefficient_of g r) (v r)
    ∙ ap (λ z. z +ℤ ((pos b *ℤ coefficient_of g r) *ℤ v r)) (associates (pos a) (coefficient_of f r) (v r))
    ∙ ap (λ z. (pos a *ℤ at_f r) +ℤ z) (associates (pos b) (coefficient_of g r) (v r)) in
    value_is_sum v n e (omega arith)
    ∙ sum_below_same n at_e (λ r. (pos a *ℤ at_f r) +ℤ (pos b *ℤ at_g r)) each
    ∙ sum_below_add n (λ r. pos a *ℤ at_f r) (λ r. pos b *ℤ at_g r)
    ∙ ap (λ z. z +ℤ sum_below n (λ r. pos b *ℤ at_g r)) (sum_below_scale n (pos a) at_f ∙ ap (λ z. pos a *ℤ z) (sym (value_is_sum v n f (omega arith))))
    ∙ ap (λ z. (pos a *ℤ value_of v f) +ℤ z) (sum_below_scale n (pos b) at_g ∙ ap (λ z. pos b *ℤ z) (sym (value_is_sum v n g (omega arith))))

-- ---- the values of sums, differences and of forms with registers replaced

value_append : (v : ℕ → ℤ) (ts us : List Term) → value_of v (ts ++ us) ≡ value_of v ts +ℤ value_of v us
value_append v [] us = omega (arith, ints)
value_append v (t ∷ ts) us = rw (value_append v ts us) (omega (arith, ints))

value_scaled_terms : (v : ℕ → ℤ) (c : ℤ) (ts : List Term) → value_of v (scaled_terms c ts) ≡ c *ℤ value_of v ts
value_scaled_terms v c [] = sym (*ℤ-zero c)
value_scaled_terms v c (t ∷ ts) = rw (value_scaled_terms v c ts, associates c t.coefficient (v t.register.0)) (sym (distributes c (t.coefficient *ℤ v t.register.0) (value_of v ts)))

pub value_constant : (v : ℕ → ℤ) (c : ℤ) → value v (constant_form c) ≡ c
value_constant v c = omega (arith, ints)

one_times : (x : ℤ) → pos 1 *ℤ x ≡ x
one_times x = omega (arith, ints)

pub minus_times : (x : ℤ) → pos 0 ≡ (negsuc 0 *ℤ x) +ℤ x
minus_times x = omega (arith, ints)

pub value_register : (v : ℕ → ℤ) (r : ℕ) → value v (register_form r) ≡ v r
value_register v r = rw (one_times (v r)) (omega (arith, ints))

pub value_plus : (v : ℕ → ℤ) (e f : Combination) → value v (plus e f) ≡ value v e +ℤ value v f
value_plus v e f = rw (value_append v e.terms f.terms) (omega (arith, ints))

pub value_scaled : (v : ℕ → ℤ) (c : ℤ) (e : Combination) → value v (scaled c e) ≡ c *ℤ value v e
value_scaled v c e = rw (value_scaled_terms v c e.terms) (sym (distributes c (value_of v e.terms) e.constant))

value_put_terms : (v : ℕ → ℤ) (σ : ℕ → Combination) (ts : List Term) → value v (put_terms σ ts) ≡ value_of (λ r. value v (σ r)) ts
value_put_terms v σ [] = refl
value_put_terms v σ (t ∷ ts) = value_plus v (scaled t.coefficient (σ t.register.0)) (put_terms σ ts) ∙ rw (value_scaled v t.coefficient (σ t.register.0), value_put_terms v σ ts) refl

-- putting forms in for registers
pub value_put : (v : ℕ → ℤ) (σ : ℕ → Combination) (e : Combination) → value v (put σ e) ≡ value (λ r. value v (σ r)) e
value_put v σ e = value_plus v (put_terms σ e.terms) (constant_form e.constant) ∙ rw (value_put_terms v σ e.terms, value_constant v e.constant) refl

pub value_minus : (v : ℕ → ℤ) (e f : Combination) → value v (minus e f) ≡ value v e +ℤ (negsuc 0 *ℤ value v f)
value_minus v e f = value_plus v e (scaled (negsuc 0) f) ∙ rw (value_scaled v (negsuc 0) f) refl

-- and what is ordered has a difference that holds
pub minus_holds : (v : ℕ → ℤ) (e f : Combination) → value v f ≤ℤ value v e → Holds v (minus e f)
minus_holds v e f h = rw (value_minus v e f) (linear (value v e) (value v f) (negsuc 0 *ℤ value v f) h (minus_times (value v f)))
  where
    linear : (x y z : ℤ) → y ≤ℤ x → pos 0 ≡ z +ℤ y → pos 0 ≤ℤ (x +ℤ z)
    linear x y z h e = omega (arith, ints)

-- a difference that is shown orders values
pub minus_orders : (v : ℕ → ℤ) (e f : Combination) → Holds v (minus e f) → value v f ≤ℤ value v e
minus_orders v e f h =
    let a = value_plus v e (scaled (negsuc 0) f) in
    let b = value_scaled v (negsuc 0) f in
    let c = minus_times (value v f) in
    let h2 : pos 0 ≤ℤ (value v e +ℤ (negsuc 0 *ℤ value v f)) = rw b at (rw a at h) in
    linear (value v e) (value v f) (negsuc 0 *ℤ value v f) h2 c
  where
    linear : (x y z : ℤ) → pos 0 ≤ℤ (x +ℤ z) → pos 0 ≡ z +ℤ y → y ≤ℤ x
    linear x y z h e = omega (arith, ints)

-- a form's value depends on its own registers alone
pub value_of_same : (v w : ℕ → ℤ) (ts : List Term) → All (λ t. v t.register.0 ≡ w t.register.0) ts → value_of v ts ≡ value_of w ts
value_of_same v w [] same = refl
value_of_same v w (t ∷ ts) same =
    rw (All-head (λ (t : Term). v t.register.0 ≡ w t.register.0) t ts same, value_of_same v w ts (All-tail (λ (t : Term). v t.register.0 ≡ w t.register.0) t ts same))

pub value_same : (v w : ℕ → ℤ) (e : Combination) → All (λ t. v t.register.0 ≡ w t.register.0) e.terms → value v e ≡ value w e
value_same v w e same = rw (value_of_same v w e.terms same)

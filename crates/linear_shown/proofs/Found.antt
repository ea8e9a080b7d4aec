-- What the search finds is what is shown.
use Rattle.std.proofs.Common.{◌≡◌, ◌∙◌, ℕ, zero, suc, ◌<◌, pos, ◌+ℤ◌, ◌*ℤ◌, true, List, [], Option, length, get_or, inl, inr, sym, ap, refl, arith}
use Rattle.std.specs.List.{Contains}
use Rattle.std.specs.Option.{IfSome}
use Rattle.std.proofs.lemmas.Bool.{cases_Bool}
use Rattle.std.specs.Int.RustNames.{unsigned_abs}
use Rattle.std.proofs.lemmas.List.{length-map, get_or-map}
use Rattle.std.proofs.Math.IntN.{zero-*ℤ}
use Rattle.linear.specs.declared.form.Term.{Term}
use Rattle.linear.specs.declared.form.Fact.{Fact}
use Rattle.linear.specs.Forms.{IsRising}
use Rattle.linear.specs.Terms.{Combination, coefficient_of, constant_form}
use Rattle.linear.specs.declared.form.RegisterId.{RegisterId}
use Rattle.linear_shown.specs.Shown.{IsSum, IsFactor, IsShown}
use Rattle.linear_shown.specs.Sides.{sides}
use Rattle.linear_shown.specs.Search.{factors, IsLeft, has_some, IsFound}
use Rattle.linear.proofs.Coefficients.{own_coefficient}
use Rattle.linear_shown.proofs.Left.{none_leads, swapped}
use Rattle.linear_shown.proofs.Newest.{in_newest, in_sides}
use Rattle.linear_shown.proofs.Coefficients.{named_or_none}

some_term : Term
some_term = record { register = record { 0 = 0 }; coefficient = pos 0 }

factor_at : (ts : List Term) (k a : ℕ) → k < length ts → get_or (factors ts) (suc k) a ≡ unsigned_abs (get_or ts k some_term).coefficient
factor_at ts k a within = get_or-map (λ (t : Term). unsigned_abs t.coefficient) ts k some_term a within

pub is_factor : (e : Combination) (a : ℕ) → IsRising e.terms → Contains (factors e.terms) a → IsFactor e a
is_factor e a rising (zero, within, is) = inl (sym is)
is_factor e a rising (suc k, within, is) =
    let below : k < length e.terms = omega (arith, within, length-map e.terms (λ (t : Term). unsigned_abs t.coefficient)) in
    inr ((get_or e.terms k some_term).register.0, sym is ∙ factor_at e.terms k a below ∙ ap unsigned_abs (sym (own_coefficient e.terms k some_term rising below)))

-- a factor of the list with its fact; a factor 0 makes the fact count for nothing
pub record Counts (facts : List Fact) (e f : Combination) (a : ℕ) : Type 0 where
  pub side : Combination
  pub factor : ℕ
  pub side_is : Contains (sides facts) side
  pub factor_is : Contains (factors e.terms) factor
  pub terms : (r : ℕ) → pos a *ℤ coefficient_of f.terms r ≡ pos factor *ℤ coefficient_of side.terms r
  pub constant : pos a *ℤ f.constant ≡ pos factor *ℤ side.constant

as_it_is : (facts : List Fact) (e f : Combination) (a : ℕ) → Contains (sides facts) f → Contains (factors e.terms) a → Counts facts e f a
as_it_is facts e f a in_f in_a = record { side = f; factor = a; side_is = in_f; factor_is = in_a; terms = λ r. refl; constant = refl }

for_nothing : (facts : List Fact) (e f : Combination) (a : ℕ) → a ≡ 0 → Counts facts e f a
for_nothing facts e f a e0 = record {
  side = constant_form (pos 0);
  factor = 1;
  side_is = (0, omega arith, refl);
  factor_is = (0, omega arith, refl);
  terms = λ r. ap (λ (n : ℕ). pos n *ℤ coefficient_of f.terms r) e0 ∙ zero-*ℤ (coefficient_of f.terms r);
  constant = ap (λ (n : ℕ). pos n *ℤ f.constant) e0 ∙ zero-*ℤ f.constant;
}

counted : (facts : List Fact) (e f : Combination) (a : ℕ) → IsRising e.terms → Contains (sides facts) f → IsFactor e a → Counts facts e f a
counted facts e f a rising in_f (inl one) = as_it_is facts e f a in_f (0, omega arith, sym one)
counted facts e f a rising in_f (inr (r, is)) = elim (named_or_none e.terms r rising) [
  | inl none ↦ for_nothing facts e f a (is ∙ ap unsigned_abs none)
  | inr (k, within, own) ↦ as_it_is facts e f a in_f (suc k, omega (arith, within, length-map e.terms (λ (t : Term). unsigned_abs t.coefficient)), factor_at e.terms k a within ∙ ap unsigned_abs (sym (own some_term)) ∙ sym is)
]

made : (facts : List Fact) (e : Combination) (lead : Option RegisterId) (f g : Combination) (a b : ℕ) → has_some f.terms lead ≡ true →
    Contains (sides facts) f → Contains (sides facts) g → Contains (factors e.terms) a → Contains (factors e.terms) b → IsSum e a f b g → IsFound facts e lead
made facts e lead f g a b leads in_f in_g in_a in_b sum = (f, in_newest facts f in_f, (leads, (a, in_a, (g, in_newest facts g in_g, (b, in_b, sum)))))

as_found : (facts : List Fact) (e : Combination) (lead : Option RegisterId) → IfSome lead (IsLeft e.terms 1 []) → (s : IsShown facts e) → Counts facts e s.f s.a → Counts facts e s.g s.b → IsFound facts e lead
as_found facts e lead l s f g =
    let sum : IsSum e f.factor f.side g.factor g.side = record {
      terms = λ r. s.sum.terms r ∙ ap (λ x. x +ℤ (pos s.b *ℤ coefficient_of s.g.terms r)) (f.terms r) ∙ ap (λ x. (pos f.factor *ℤ coefficient_of f.side.terms r) +ℤ x) (g.terms r);
      constant = rw (← f.constant, ← g.constant) s.sum.constant;
    } in
    elim (cases_Bool (has_some f.side.terms lead)) [
      | inl leads ↦ made facts e lead f.side g.side f.factor g.factor leads f.side_is g.side_is f.factor_is g.factor_is sum
      | inr no_f ↦ elim (cases_Bool (has_some g.side.terms lead)) [
        | inl leads ↦ made facts e lead g.side f.side g.factor f.factor leads g.side_is f.side_is g.factor_is f.factor_is (swapped e f.factor f.side g.factor g.side sum)
        | inr no_g ↦ absurd (none_leads e lead l f.factor f.side g.factor g.side no_f no_g sum)
      ]
    ]

pub found_shown : (facts : List Fact) (e : Combination) (lead : Option RegisterId) → IsRising e.terms → IsFound facts e lead → IsShown facts e
found_shown facts e lead rising (f, in_f, (leads, (a, in_a, (g, in_g, (b, in_b, sum))))) = record {
  f = f;
  g = g;
  a = a;
  b = b;
  f_is = in_sides facts f in_f;
  g_is = in_sides facts g in_g;
  a_is = is_factor e a rising in_a;
  b_is = is_factor e b rising in_b;
  sum = sum;
}

pub shown_found : (facts : List Fact) (e : Combination) (lead : Option RegisterId) → IfSome lead (IsLeft e.terms 1 []) → IsRising e.terms → IsShown facts e → IsFound facts e lead
shown_found facts e lead l rising s = as_found facts e lead l s (counted facts e s.f s.a rising s.f_is s.a_is) (counted facts e s.g s.b rising s.g_is s.b_is)

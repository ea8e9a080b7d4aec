-- What is shown depends on coefficients and constants alone.
use Rattle.std.proofs.Common.{◌∙◌, ℕ, pos, ◌+ℤ◌, ◌*ℤ◌, List, map, inl, inr, sym, ap, refl, arith}
use Rattle.std.specs.List.{All, Contains}
use Rattle.std.specs.Int.RustNames.{unsigned_abs}
use Rattle.std.proofs.lemmas.List.Elements.{All-cons, All-map, All-contains}
use Rattle.linear.specs.declared.form.Fact.{Fact}
use Rattle.linear.specs.Forms.{Same}
use Rattle.linear.specs.Terms.{Combination, coefficient_of, constant_form}
use Rattle.linear_shown.specs.Shown.{IsFactor, IsShown, SameFacts}
use Rattle.linear_shown.specs.Sides.{sides}
use Rattle.linear.proofs.Making.{same_of}

factor_same : (e f : Combination) (a : ℕ) → Same e f → IsFactor e a → IsFactor f a
factor_same e f a same (inl one) = inl one
factor_same e f a same (inr (r, is)) = inr (r, is ∙ ap unsigned_abs (same.terms r))

-- a side that says the same as another
pub record Matches (others : List Fact) (f : Combination) : Type 0 where
  pub side : Combination
  pub within : Contains (sides others) side
  pub same : Same f side

matched : (facts others : List Fact) → SameFacts facts others → (f : Combination) → Contains (sides facts) f → Matches others f
matched facts others same f in_f =
    let zero_side : Combination = constant_form (pos 0) in
    let first : Matches others zero_side = record { side = zero_side; within = (0, omega arith, refl); same = same_of zero_side } in
    let rest : All (λ (g : Fact). Matches others g.form) facts = λ k d l. let m = same k d l in record { side = m.0; within = m.1; same = m.2 } in
    All-contains (Matches others) (sides facts) f (All-cons (Matches others) zero_side (map (λ (g : Fact). g.form) facts) first (All-map (Matches others) (λ (g : Fact). g.form) facts rest)) in_f

pub shown_same : (facts others : List Fact) (e f : Combination) → Same e f → SameFacts facts others → IsShown facts e → IsShown others f
shown_same facts others e f same match s =
    let g = matched facts others match s.f s.f_is in
    let h = matched facts others match s.g s.g_is in
    record {
      f = g.side;
      g = h.side;
      a = s.a;
      b = s.b;
      f_is = g.within;
      g_is = h.within;
      a_is = factor_same e f s.a same s.a_is;
      b_is = factor_same e f s.b same s.b_is;
      sum = record {
        terms = λ r. sym (same.terms r) ∙ s.sum.terms r ∙ ap (λ x. (pos s.a *ℤ x) +ℤ (pos s.b *ℤ coefficient_of s.g.terms r)) (g.same.terms r) ∙ ap (λ x. (pos s.a *ℤ coefficient_of g.side.terms r) +ℤ (pos s.b *ℤ x)) (h.same.terms r);
        constant = rw (← same.constant, ← g.same.constant, ← h.same.constant) s.sum.constant;
      };
    }

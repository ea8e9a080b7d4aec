-- What a pair of facts needs of a register of which something is left.
use Rattle.std.proofs.Common.{◌≡◌, ◌∙◌, ℕ, ℤ, pos, ◌+ℤ◌, ◌*ℤ◌, false, List, [], Option, Some, None, ap, arith}
use Rattle.std.proofs.lemmas.Bool.{not-false}
use Rattle.std.proofs.lemmas.Bool.Decides.{Decides-int_eq}
use Rattle.std.proofs.lemmas.Int.{ints}
use Rattle.std.proofs.Math.IntN.{*ℤ-zero, +ℤ_comm}
use Rattle.std.specs.Ordering.{int_eq}
use Rattle.std.specs.Option.{IfSome}
use Rattle.linear.specs.declared.form.RegisterId.{RegisterId}
use Rattle.linear.specs.declared.form.Term.{Term}
use Rattle.linear.specs.Forms.{IsRising}
use Rattle.linear.specs.Terms.{Combination, coefficient_of}
use Rattle.linear_shown.specs.Shown.{IsSum}
use Rattle.linear_shown.specs.Search.{Agrees, IsLeft, has_some}
use Rattle.linear_shown.proofs.Coefficients.{looked_up_is}

-- nothing is left where one side alone makes up the register
pub alone_agrees : (e f : List Term) (a r : ℕ) → IsRising e → IsRising f → coefficient_of e r ≡ pos a *ℤ coefficient_of f r → Agrees e a f 0 [] r
alone_agrees e f a r re rf h = rw (looked_up_is e r re, looked_up_is f r rf, h) (omega (arith, ints))

none_there : (ts : List Term) (r : RegisterId) → has_some ts (Some r) ≡ false → coefficient_of ts r.0 ≡ pos 0
none_there ts r h = (Decides-int_eq _ _).0 (not-false (int_eq (coefficient_of ts r.0) (pos 0)) h)

-- a second side without the register
pub left_stays : (e : Combination) (a : ℕ) (f : Combination) (left : Option RegisterId) → IfSome left (IsLeft e.terms a f.terms) →
    (b : ℕ) (g : Combination) → has_some g.terms left ≡ false → IsSum e a f b g → ⊥
left_stays e a f None l b g h s = cc
left_stays e a f (Some r) l b g h s =
    l (s.terms r.0 ∙ rw (none_there g.terms r h, *ℤ-zero (pos b)) (omega (arith, ints)))

nothing_added : (a b : ℕ) (x y : ℤ) → x ≡ pos 0 → y ≡ pos 0 → (pos a *ℤ x) +ℤ (pos b *ℤ y) ≡ pos 0
nothing_added a b x y hx hy =
    ap (λ z. (pos a *ℤ z) +ℤ (pos b *ℤ y)) hx ∙ ap (λ z. (pos a *ℤ pos 0) +ℤ (pos b *ℤ z)) hy
    ∙ ap (λ z. z +ℤ (pos b *ℤ pos 0)) (*ℤ-zero (pos a)) ∙ ap (λ z. pos 0 +ℤ z) (*ℤ-zero (pos b))

-- two sides without a register that the form has
pub none_leads : (e : Combination) (lead : Option RegisterId) → IfSome lead (IsLeft e.terms 1 []) →
    (a : ℕ) (f : Combination) (b : ℕ) (g : Combination) → has_some f.terms lead ≡ false → has_some g.terms lead ≡ false → IsSum e a f b g → ⊥
none_leads e None l a f b g hf hg s = cc
none_leads e (Some r) l a f b g hf hg s =
    l (s.terms r.0 ∙ nothing_added a b (coefficient_of f.terms r.0) (coefficient_of g.terms r.0) (none_there f.terms r hf) (none_there g.terms r hg))

pub swapped : (e : Combination) (a : ℕ) (f : Combination) (b : ℕ) (g : Combination) → IsSum e a f b g → IsSum e b g a f
swapped e a f b g s = record {
  terms = λ r. s.terms r ∙ +ℤ_comm (pos a *ℤ coefficient_of f.terms r) (pos b *ℤ coefficient_of g.terms r);
  constant = rw (+ℤ_comm (pos b *ℤ g.constant) (pos a *ℤ f.constant)) s.constant;
}

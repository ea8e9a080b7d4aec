-- What one more term adds to a sum of terms, and what stands at a place.
use Rattle.std.proofs.Common.{◌≡◌, ℕ, zero, suc, ◌+◌, ◌-◌, ◌<◌, ◌≤◌, ◌^◌, ℤ, pos, ◌+ℤ◌, ◌*ℤ◌, List, drop, length, get_or, refl, to_z, of_z, FitsSigned, arith}
use Rattle.std.specs.Int.{w128}
use Rattle.std.specs.Int.RustNames.{unsigned_abs}
use Rattle.std.proofs.lemmas.Int.{ints, to_z-of_z}
use Rattle.std.proofs.lemmas.List.{drop_all, drop_more, get_or-map}
use Rattle.linear.specs.declared.form.Fact.{Fact}
use Rattle.linear_shown.specs.Index.{place_at}
use Rattle.linear.specs.Forms.{value_of}
use Rattle.linear.specs.Terms.{constant_form}
use Rattle.linear.specs.declared.form.Term.{Term}

pub as_it_was : (x : ℤ) → unsigned_abs x < 2 ^ 100 → to_z w128 (of_z w128 x) ≡ x
as_it_was x small = let fits : FitsSigned w128 x = omega (arith, ints) in to_z-of_z w128 x fits

added : (s p q r n w : ℤ) → n ≡ s +ℤ (p *ℤ q) → s +ℤ ((q *ℤ p) +ℤ r) ≡ w → n +ℤ r ≡ w
added s p q r n w e is = omega (arith, ints)

pub value_more : (v : ℕ → ℤ) (terms : List Term) (i : ℕ) (d : Term) (sum new : ℤ) → i < length terms → new ≡ sum +ℤ (v (get_or terms i d).register.0 *ℤ (get_or terms i d).coefficient)
    → sum +ℤ value_of v (drop i terms) ≡ value_of v terms → new +ℤ value_of v (drop (i + 1) terms) ≡ value_of v terms
value_more v terms i d sum new l e is =
    let t = get_or terms i d in
    added sum (v t.register.0) t.coefficient (value_of v (drop (i + 1) terms)) new (value_of v terms) e (rw (drop_more terms i d l) at is)

pub value_all : (v : ℕ → ℤ) (terms : List Term) (i : ℕ) (sum : ℤ) → length terms ≤ i → sum +ℤ value_of v (drop i terms) ≡ value_of v terms → sum ≡ value_of v terms
value_all v terms i sum l is = let h = rw (drop_all i terms l) at is in omega (arith, ints, h)

pub side_read : (facts : List Fact) (place : ℕ) (d : Fact) → (place ≡ 0 → ⊥) → place ≤ length facts → place_at facts place ≡ (get_or facts (place - 1) d).form
side_read facts zero d some l = absurd (some refl)
side_read facts (suc k) d some l = let is : suc k - 1 ≡ k = omega arith in rw is (get_or-map (λ (f : Fact). f.form) facts k d (constant_form (pos 0)) (omega arith))

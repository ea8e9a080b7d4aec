-- What true facts show is true.
use Rattle.std.proofs.Common.{◌≡◌, ℕ, ◌≤◌, ℤ, pos, ◌+ℤ◌, ◌*ℤ◌, ◌≤ℤ◌, List, map, arith}
use Rattle.std.proofs.Math.Nat.{mul-le-mul_left}
use Rattle.std.specs.List.{All}
use Rattle.std.proofs.lemmas.Int.{ints}
use Rattle.std.proofs.lemmas.List.Elements.{All-cons, All-map, All-contains}
use borrow.Author.Differences.{up, down, le_out}
use Rattle.linear.specs.declared.form.Fact.{Fact}
use Rattle.linear.specs.Forms.{value_of, Holds}
use Rattle.linear.specs.Terms.{Combination, constant_form}
use Rattle.linear_shown.specs.Shown.{IsShown, AllHold}
use Rattle.linear_shown.specs.Sides.{sides}
use Rattle.linear.proofs.Values.{distributes, value_combines}

pub keeps_sign : (a : ℕ) (x : ℤ) → pos 0 ≤ℤ x → pos 0 ≤ℤ (pos a *ℤ x)
keeps_sign a x h =
    let signs : down x ≤ up x = omega (arith, le_out (pos 0) x h) in
    omega (arith, ints, mul-le-mul_left a signs)

-- linear, over what the products are
pub adds_up : (e ec af afc bg bgc : ℤ) → e ≡ af +ℤ bg → (afc +ℤ bgc) ≤ℤ ec → pos 0 ≤ℤ (af +ℤ afc) → pos 0 ≤ℤ (bg +ℤ bgc) → pos 0 ≤ℤ (e +ℤ ec)
adds_up e ec af afc bg bgc same le p q = omega (arith, ints)

pub scaled_holds : (a : ℕ) (x c : ℤ) → pos 0 ≤ℤ (x +ℤ c) → pos 0 ≤ℤ ((pos a *ℤ x) +ℤ (pos a *ℤ c))
scaled_holds a x c h = rw (← distributes (pos a) x c) (keeps_sign a (x +ℤ c) h)

-- what is shown by true facts is true
pub shown_holds : (facts : List Fact) (e : Combination) → IsShown facts e → (v : ℕ → ℤ) → AllHold v facts → Holds v e
shown_holds facts e s v all =
    let hold : All (Holds v) (sides facts) = All-cons (Holds v) (constant_form (pos 0)) (map (λ (f : Fact). f.form) facts) (omega (arith, ints)) (All-map (Holds v) (λ (f : Fact). f.form) facts all) in
    adds_up (value_of v e.terms) e.constant (pos s.a *ℤ value_of v s.f.terms) (pos s.a *ℤ s.f.constant) (pos s.b *ℤ value_of v s.g.terms) (pos s.b *ℤ s.g.constant)
    (value_combines v e.terms s.a s.f.terms s.b s.g.terms s.sum.terms)
    s.sum.constant
    (scaled_holds s.a (value_of v s.f.terms) s.f.constant (All-contains (Holds v) (sides facts) s.f hold s.f_is))
    (scaled_holds s.b (value_of v s.g.terms) s.g.constant (All-contains (Holds v) (sides facts) s.g hold s.g_is))

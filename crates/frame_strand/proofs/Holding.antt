-- What a cell may hold once a change was put.
use Rattle.std.proofs.Common.{◌≡◌, ◌≢◌, refl, ap, sym, ◌∙◌, cond, ℤ, Option, Some, None, Result, Ok, Err, inl, inr}
use Rattle.std.specs.Prelude.{OnOk, OnErr}
use Rattle.std.specs.Ordering.{int_eq}
use Rattle.std.proofs.lemmas.Option.{same_Some}
use Rattle.semantics.specs.Arithmetic.{cell_sum}
use Rattle.frame_strand.specs.Buffers.{Buffers, IsPut, change_in, held_in, known_value, raised_change, value_in}
use Rattle.frame_strand.specs.declared.cells.Change.{Change}
use Rattle.frame_strand.specs.declared.cells.Change.TheVariants.{Stored, Delta}
use Rattle.frame_strand.specs.declared.cells.CellStop.{CellStop}
use Rattle.frame_strand.proofs.CellsKept.{change_with, int_tells}

put_here : (b after : Buffers) (a : ℤ) (u : Change) → IsPut b a u after → held_in after a ≡ known_value (Some u) (value_in b.reads a)
put_here b after a u p = ap (λ (x : Buffers). held_in x a) p.is ∙ ap (λ o. known_value o (value_in b.reads a)) (change_with b.writes a u a ∙ here)
  where
    here : cond (int_eq a a) (Some u) (change_in b.writes a) ≡ Some u
    here = elim (int_tells a a) [ inl q ↦ ap (λ t. cond t (Some u) (change_in b.writes a)) q.0 | inr q ↦ absurd (q.1 refl) ]

put_there : (b after : Buffers) (a : ℤ) (u : Change) (x : ℤ) → IsPut b a u after → x ≢ a → held_in after x ≡ held_in b x
put_there b after a u x p other = ap (λ (y : Buffers). held_in y x) p.is ∙ ap (λ o. known_value o (value_in b.reads x)) (change_with b.writes a u x ∙ there)
  where
    there : cond (int_eq x a) (Some u) (change_in b.writes x) ≡ change_in b.writes x
    there = elim (int_tells x a) [ inl q ↦ absurd (other q.1) | inr q ↦ ap (λ t. cond t (Some u) (change_in b.writes x)) q.0 ]

module _ (b after : Buffers) (a : ℤ) where
  pub stored_here : (r : Result (Unit {0}) CellStop) (z : ℤ) → OnOk r (IsPut b a (Stored z) after) → OnOk r ((v : ℤ) → held_in after a ≡ Some v → v ≡ z)
  stored_here (Ok u) z p = λ v h. same_Some v z (sym h ∙ put_here b after a (Stored z) p)
  stored_here (Err s) z p = tt

  pub put_others : (r : Result (Unit {0}) CellStop) (u : Change) → OnOk r (IsPut b a u after) → OnErr r (after ≡ b) → (x z : ℤ) → ((v : ℤ) → held_in b x ≡ Some v → v ≡ z) → x ≢ a → (v : ℤ) → held_in after x ≡ Some v → v ≡ z
  put_others (Ok i) u p e x z old other v h = old v (sym (put_there b after a u x p other) ∙ h)
  put_others (Err s) u p e x z old other v h = old v (ap (λ (y : Buffers). held_in y x) (sym e) ∙ h)

  summed : (n z : ℤ) (o : Option Change) (r : Option ℤ) → ((v : ℤ) → known_value o r ≡ Some v → v ≡ z) → (v : ℤ) → known_value (Some (raised_change n o r)) r ≡ Some v → v ≡ cell_sum z n
  summed n z (Some (Stored y)) r old v h = same_Some v (cell_sum y n) (sym h) ∙ ap (λ k. cell_sum k n) (old y refl)
  summed n z (Some (Delta y)) r old v h = absurd cc
  summed n z None (Some y) old v h = same_Some v (cell_sum y n) (sym h) ∙ ap (λ k. cell_sum k n) (old y refl)
  summed n z None None old v h = absurd cc

  pub added_here : (r : Result (Unit {0}) CellStop) (n : ℤ) → OnOk r (IsPut b a (raised_change n (change_in b.writes a) (value_in b.reads a)) after) → OnOk r ((z : ℤ) → ((v : ℤ) → held_in b a ≡ Some v → v ≡ z) → (v : ℤ) → held_in after a ≡ Some v → v ≡ cell_sum z n)
  added_here (Ok i) n p = λ z old v h. summed n z (change_in b.writes a) (value_in b.reads a) old v (sym (put_here b after a (raised_change n (change_in b.writes a) (value_in b.reads a)) p) ∙ h)
  added_here (Err s) n p = tt

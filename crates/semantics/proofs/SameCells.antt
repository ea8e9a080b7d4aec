-- The tests of cells tell them apart.
use Rattle.std.proofs.Common.{◌≡◌, Bool, true, false, ◌⊎◌, inl, inr, refl, sym, ◌∙◌, subst, eqb-true}
use Rattle.std.proofs.lemmas.Bool.{and_parts}
use Rattle.semantics.specs.Cells.{Object, Shared, Local, Cell, same_object, same_cell}
use Rattle.semantics.proofs.Actions.{same_cell_itself}
use Rattle.semantics.proofs.Places.{same_path_is}

pub same_object_is : (o q : Object) → same_object o q ≡ true → o ≡ q
same_object_is (Shared g) (Shared h) e = λ i. Shared (eqb-true g h e i)
same_object_is (Shared g) (Local p n) e = absurd (cc)
same_object_is (Local p n) (Shared g) e = absurd (cc)
same_object_is (Local p n) (Local q k) e = let (path, alloca) = and_parts _ _ e in λ i. Local (same_path_is p q path i) (eqb-true n k alloca i)

pub same_cell_is : (c x : Cell) → same_cell c x ≡ true → c ≡ x
same_cell_is c x e = let (object, index) = and_parts _ _ e in λ i. record { object = same_object_is c.object x.object object i; index = eqb-true c.index x.index index i }

pub same_cell_tells : (c x : Cell) → ((same_cell c x ≡ true) × (c ≡ x)) ⊎ (same_cell c x ≡ false)
same_cell_tells c x = from (same_cell c x) refl
  where
    from : (b : Bool) → same_cell c x ≡ b → ((same_cell c x ≡ true) × (c ≡ x)) ⊎ (same_cell c x ≡ false)
    from true e = inl (e, same_cell_is c x e)
    from false e = inr e

pub same_cell_back : (c x : Cell) → same_cell c x ≡ same_cell x c
same_cell_back c x =
    elim (same_cell_tells c x) [
      | inl h ↦ let e = h.1 in h.0 ∙ sym (subst (λ z. same_cell z c ≡ true) e (same_cell_itself c))
      | inr h ↦ elim (same_cell_tells x c) [ inl k ↦ absurd (let e : same_cell c x ≡ true = subst (λ z. same_cell z x ≡ true) k.1 (same_cell_itself x) in cc) | inr k ↦ h ∙ sym k ]
    ]

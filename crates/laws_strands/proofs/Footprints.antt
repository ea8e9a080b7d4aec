-- What look-ups find in a footprint that grows.
use Rattle.std.proofs.Common.{◌≡◌, List, [], ◌∷◌, ◌++◌, Option, Some, None, Bool, true, false, cond, refl, sym, ap, ◌∙◌, subst}
use Rattle.std.specs.Map.{lookup}
use Rattle.semantics.specs.Cells.{Cell, same_cell}
use Rattle.semantics.proofs.Actions.{same_cell_itself}
use Rattle.semantics.proofs.SameCells.{same_cell_is}
use Rattle.laws_strands.specs.Footprint.{Write, with_write}

pub lookup_with_write : (writes : List (Cell × Write)) (c : Cell) (u : Write) (x : Cell) → lookup (same_cell x) (with_write writes c u) ≡ cond (same_cell x c) (Some u) (lookup (same_cell x) writes)
lookup_with_write [] c u x = refl
lookup_with_write (e ∷ more) c u x = from (same_cell c e.0) refl (lookup_with_write more c u x)
  where
    skip : (a b : Bool) (rest : Option Write) → (a ≡ true → b ≡ true → ⊥) → cond a (Some e.1) (cond b (Some u) rest) ≡ cond b (Some u) (cond a (Some e.1) rest)
    skip true true rest apart = absurd (apart refl refl)
    skip true false rest apart = refl
    skip false b rest apart = refl

    over : (a : Bool) (rest : Option Write) → cond a (Some u) rest ≡ cond a (Some u) (cond a (Some e.1) rest)
    over true rest = refl
    over false rest = refl

    from : (b : Bool) → same_cell c e.0 ≡ b → lookup (same_cell x) (with_write more c u) ≡ cond (same_cell x c) (Some u) (lookup (same_cell x) more) →
        lookup (same_cell x) (cond b ((e.0, u) ∷ more) (e ∷ with_write more c u)) ≡ cond (same_cell x c) (Some u) (cond (same_cell x e.0) (Some e.1) (lookup (same_cell x) more))
    from true is rest =
        let one : same_cell x e.0 ≡ same_cell x c = ap (λ z. same_cell x z) (sym (same_cell_is c e.0 is)) in
        rw one (over (same_cell x c) (lookup (same_cell x) more))
    from false is rest =
        rw rest (skip (same_cell x e.0) (same_cell x c) (lookup (same_cell x) more) (λ h k.
        let one : c ≡ e.0 = sym (same_cell_is x c k) ∙ same_cell_is x e.0 h in
        let t : same_cell c e.0 ≡ true = subst (λ z. same_cell c z ≡ true) one (same_cell_itself c) in
        cc))

-- what is put behind others is found where nothing is found among them
pub lookup_behind : {X : Type 0} (es : List (Cell × X)) (c : Cell) (v : X) (x : Cell) (y : X) → lookup (same_cell x) es ≡ Some y → lookup (same_cell x) (es ++ (c, v) ∷ []) ≡ Some y
lookup_behind [] c v x y e = absurd (cc)
lookup_behind (d ∷ es) c v x y e = from (same_cell x d.0) e (lookup_behind es c v x y)
  where
    from : (b : Bool) → cond b (Some d.1) (lookup (same_cell x) es) ≡ Some y → (lookup (same_cell x) es ≡ Some y → lookup (same_cell x) (es ++ (c, v) ∷ []) ≡ Some y) → cond b (Some d.1) (lookup (same_cell x) (es ++ (c, v) ∷ [])) ≡ Some y
    from true h rest = h
    from false h rest = rest h

pub lookup_new : {X : Type 0} (es : List (Cell × X)) (c : Cell) (v : X) → lookup (same_cell c) es ≡ None → lookup (same_cell c) (es ++ (c, v) ∷ []) ≡ Some v
lookup_new [] c v e = rw (same_cell_itself c)
lookup_new (d ∷ es) c v e = from (same_cell c d.0) e (lookup_new es c v)
  where
    from : (b : Bool) → cond b (Some d.1) (lookup (same_cell c) es) ≡ None → (lookup (same_cell c) es ≡ None → lookup (same_cell c) (es ++ (c, v) ∷ []) ≡ Some v) → cond b (Some d.1) (lookup (same_cell c) (es ++ (c, v) ∷ [])) ≡ Some v
    from true h rest = absurd (cc)
    from false h rest = rest h

-- Whether a register holds the region of a path.
use Rattle.std.proofs.Common.{◌≡◌, ◌≢◌, ℕ, ◌⊎◌, inl, inr, List, [], ◌∷◌, Option, Some, None, refl, ap}
use Rattle.std.proofs.lemmas.Bool.{cases_eq}
use Rattle.semantics.specs.Paths.{Path}
use Rattle.semantics.specs.Frames.{Value, Word, Truth, Pointer, Region}

pub same_or_not : (xs ys : List ℕ) → (xs ≡ ys) ⊎ (xs ≢ ys)
same_or_not [] [] = inl refl
same_or_not [] (y ∷ ys) = inr (λ e. cc)
same_or_not (x ∷ xs) [] = inr (λ e. cc)
same_or_not (x ∷ xs) (y ∷ ys) = elim (cases_eq x y) [
  | inl e ↦ elim (same_or_not xs ys) [
    | inl f ↦ inl (rw (e, f) refl)
    | inr n ↦ inr (λ g. n (cc))
  ]
  | inr n ↦ inr (λ g. n (cc))
]

pub is_region : (v : Option Value) (p : Path) → (v ≡ Some (Region p)) ⊎ (v ≢ Some (Region p))
is_region None p = inr (λ e. cc)
is_region (Some (Word z)) p = inr (λ e. cc)
is_region (Some (Truth b)) p = inr (λ e. cc)
is_region (Some (Pointer c)) p = inr (λ e. cc)
is_region (Some (Region q)) p = elim (same_or_not q p) [
  | inl e ↦ inl (ap (λ x. Some (Region x)) e)
  | inr n ↦ inr (λ g. n (cc))
]

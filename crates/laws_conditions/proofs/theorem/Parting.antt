-- Two paths: one lies below the other, or they part at a frame above both.
use Rattle.std.proofs.Common.{◌≡◌, ℕ, [], ◌∷◌, ◌≢◌, ◌⊎◌, inl, inr, refl, sym, subst}
use Rattle.semantics.specs.Paths.{Path}
use Rattle.semantics.specs.Below.{Under, itself, deeper}
use Rattle.std.proofs.lemmas.Bool.{cases_eq}

pub data Split (p q : Path) : Type 0 where
  are_same : p ≡ q → Split p q
  is_higher : (k : ℕ) → Under (k ∷ p) q → Split p q
  is_lower : (k : ℕ) → Under (k ∷ q) p → Split p q
  are_parted : (a : Path) (i j : ℕ) → i ≢ j → Under (i ∷ a) p → Under (j ∷ a) q → Split p q

under_root : (k : ℕ) (q : Path) → (j : ℕ) × Under (j ∷ []) (k ∷ q)
under_root k [] = (k, itself)
under_root k (m ∷ q) = let (j, u) = under_root m q in (j, deeper k u)

step_under : {x : Path} {y : Path} → Under x y → (x ≡ y) ⊎ ((k : ℕ) × Under (k ∷ x) y)
step_under itself = inl refl
step_under {x} (deeper k {y} u) = elim (step_under u) [ inl e ↦ inr (k, subst (λ z. Under (k ∷ x) (k ∷ z)) e itself) | inr h ↦ inr (h.0, deeper k h.1) ]

pub split : (p q : Path) → Split p q
split [] [] = are_same refl
split [] (k ∷ q) = let (j, u) = under_root k q in is_higher j u
split (i ∷ p) q = from (split p q)
  where
    from : Split p q → Split (i ∷ p) q
    from (are_same e) = is_lower i (subst (λ z. Under (i ∷ z) (i ∷ p)) e itself)
    from (is_higher k u) =
        elim (cases_eq k i) [
          | inl e ↦ elim (step_under (subst (λ n. Under (n ∷ p) q) e u)) [ inl h ↦ are_same h | inr h ↦ is_higher h.0 h.1 ]
          | inr e ↦ are_parted p i k (λ h. e (sym h)) itself u
        ]
    from (is_lower k u) = is_lower k (deeper i u)
    from (are_parted a m n e u v) = are_parted a m n e (deeper i u) v

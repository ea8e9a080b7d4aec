-- Addresses and lists.
use Rattle.std.proofs.Common.{◌≡◌, ◌≢◌, ◌<◌, ◌/◌, ◌%◌, ◌⊎◌, ℕ, zero, suc, ℤ, refl, ap, arith, Bool, true, false, List, [], ◌∷◌, ◌++◌, length, set, Some, inl, inr}
use Rattle.std.specs.Prelude.{slice_get}
use Rattle.std.specs.Ordering.{int_eq}
use Rattle.std.proofs.lemmas.Bool.Decides.{Decides-int_eq}
use Rattle.std.proofs.lemmas.Nat.{div-add-mod'}

pub address_tells : (a b : ℤ) → ((int_eq a b ≡ true) × (a ≡ b)) ⊎ ((int_eq a b ≡ false) × (a ≢ b))
address_tells a b = from (int_eq a b) refl
  where
    from : (t : Bool) → int_eq a b ≡ t → ((int_eq a b ≡ true) × (a ≡ b)) ⊎ ((int_eq a b ≡ false) × (a ≢ b))
    from true e = inl (e, (Decides-int_eq a b).0 e)
    from false e = inr (e, λ q. let t : int_eq a b ≡ true = (Decides-int_eq a b).1 q in cc)

pub same_number : (m n : ℕ) → m / 64 ≡ n / 64 → n % 64 ≡ m % 64 → n ≡ m
same_number m n page place = let x = div-add-mod' m 64 in let y = div-add-mod' n 64 in omega (arith, x, y, page, place)

pub get_set_same : {X : Type 0} (xs : List X) (i : ℕ) (y : X) → i < length xs → slice_get (set xs i y) i ≡ Some y
get_set_same [] i y h = absurd (omega arith)
get_set_same (x ∷ xs) zero y h = refl
get_set_same (x ∷ xs) (suc i) y h = get_set_same xs i y (omega arith)

pub get_set_other : {X : Type 0} (xs : List X) (i j : ℕ) (y : X) → j ≢ i → slice_get (set xs i y) j ≡ slice_get xs j
get_set_other [] i j y off = refl
get_set_other (x ∷ xs) zero zero y off = absurd (off refl)
get_set_other (x ∷ xs) zero (suc j) y off = refl
get_set_other (x ∷ xs) (suc i) zero y off = refl
get_set_other (x ∷ xs) (suc i) (suc j) y off = get_set_other xs i j y (λ e. off (ap suc e))

pub get_push_last : {X : Type 0} (xs : List X) (y : X) → slice_get (xs ++ y ∷ []) (length xs) ≡ Some y
get_push_last [] y = refl
get_push_last (x ∷ xs) y = get_push_last xs y

pub get_push_other : {X : Type 0} (xs : List X) (y : X) (j : ℕ) → j < length xs → slice_get (xs ++ y ∷ []) j ≡ slice_get xs j
get_push_other [] y j h = absurd (omega arith)
get_push_other (x ∷ xs) y zero h = refl
get_push_other (x ∷ xs) y (suc j) h = get_push_other xs y j (omega arith)

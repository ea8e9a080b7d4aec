-- Elements of lists by their places.
use Rattle.std.proofs.Common.{◌≡◌, ◌⊎◌, inl, inr, ℕ, zero, suc, ◌+◌, ◌<◌, List, [], ◌∷◌, ◌++◌, length, map, Some, true, is_some, refl, ap, ◌∙◌, arith}
use Rattle.std.specs.Prelude.{slice_get}
use Rattle.std.specs.List.{All}
use Rattle.std.specs.Option.{option_map}
use Rattle.std.proofs.lemmas.List.Elements.{All-nil, All-cons}
use Rattle.std.proofs.lemmas.Option.{slice_get-map}

pub there : {A : Type 0} (xs : List A) (i : ℕ) → i < length xs → is_some (slice_get xs i) ≡ true
there [] i l = absurd (omega arith)
there (x ∷ xs) zero l = refl
there (x ∷ xs) (suc i) l = there xs i (omega arith)

pub all_each : {A : Type 0} (P : A → Type 0) (xs : List A) → ((i : ℕ) (x : A) → slice_get xs i ≡ Some x → P x) → All P xs
all_each P [] each = All-nil P
all_each P (x ∷ xs) each = All-cons P x xs (each 0 x refl) (all_each P xs (λ i y e. each (suc i) y e))

pub in_first : {A : Type 0} (xs ys : List A) (i : ℕ) (a : A) → slice_get xs i ≡ Some a → slice_get (xs ++ ys) i ≡ Some a
in_first [] ys i a e = absurd (cc)
in_first (x ∷ xs) ys zero a e = e
in_first (x ∷ xs) ys (suc i) a e = in_first xs ys i a e

pub in_second : {A : Type 0} (xs ys : List A) (j : ℕ) (a : A) → slice_get ys j ≡ Some a → slice_get (xs ++ ys) (length xs + j) ≡ Some a
in_second [] ys j a e = ap (λ k. slice_get ys k) (omega arith) ∙ e
in_second (x ∷ xs) ys j a e =
    let n : length (x ∷ xs) + j ≡ suc (length xs + j) = omega arith in
    ap (λ k. slice_get (x ∷ (xs ++ ys)) k) n ∙ in_second xs ys j a e

pub at_last : {A : Type 0} (xs : List A) (a : A) → slice_get (xs ++ a ∷ []) (length xs) ≡ Some a
at_last [] a = refl
at_last (x ∷ xs) a = at_last xs a

pub at_push : {A : Type 0} (xs : List A) (y : A) (i : ℕ) (x : A) → slice_get (xs ++ y ∷ []) i ≡ Some x → (slice_get xs i ≡ Some x) ⊎ (y ≡ x)
at_push [] y zero x e = inr (cc)
at_push [] y (suc i) x e = absurd (cc)
at_push (z ∷ xs) y zero x e = inl e
at_push (z ∷ xs) y (suc i) x e = at_push xs y i x e

pub in_map : {A B : Type 0} (f : A → B) (xs : List A) (i : ℕ) (x : A) → slice_get xs i ≡ Some x → slice_get (map f xs) i ≡ Some (f x)
in_map f xs i x e = slice_get-map f xs i ∙ ap (option_map f) e

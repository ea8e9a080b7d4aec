-- Elements of lists that are joined, and of those that are chosen from a list.
use Rattle.std.proofs.Common.{◌≡◌, ℕ, zero, suc, ◌⊎◌, inl, inr, List, [], ◌∷◌, Option, Some, None, sym, ap, ◌∙◌, subst, arith, slice_get}
use Rattle.std.specs.List.{Contains, cons_option, filter_map, flat_map}
use Rattle.std.proofs.lemmas.List.Elements.{Contains-append_left, Contains-append_right, Contains-append_cases, Contains-push, Contains-push_cases}

pub none_within : {X : Type 0} (x : X) → Contains [] x → ⊥
none_within x c = absurd (omega (arith, c.1))

pub first_within : {X : Type 0} (x : X) (xs : List X) → Contains (x ∷ xs) x
first_within x xs = Contains-append_left (x ∷ []) xs x (Contains-push [] x)

pub later_within : {X : Type 0} (y x : X) (xs : List X) → Contains xs x → Contains (y ∷ xs) x
later_within y x xs c = Contains-append_right (y ∷ []) xs x c

pub within_cases : {X : Type 0} (y x : X) (xs : List X) → Contains (y ∷ xs) x → (y ≡ x) ⊎ Contains xs x
within_cases y x xs c = elim (Contains-append_cases (y ∷ []) xs x c) [
  | inl h ↦ elim (Contains-push_cases [] y x h) [ inl n ↦ absurd (none_within x n) | inr e ↦ inl e ]
  | inr h ↦ inr h
]

pub at_within : {X : Type 0} (xs : List X) (i : ℕ) (x : X) → slice_get xs i ≡ Some x → Contains xs x
at_within [] i x e = absurd (cc)
at_within (y ∷ ys) zero x e = let same : y ≡ x = cc in subst (λ z. Contains (z ∷ ys) x) (sym same) (first_within x ys)
at_within (y ∷ ys) (suc i) x e = later_within y x ys (at_within ys i x e)

pub within_at : {X : Type 0} (xs : List X) (x : X) → Contains xs x → (i : ℕ) × (slice_get xs i ≡ Some x)
within_at [] x c = absurd (none_within x c)
within_at (y ∷ ys) x c = elim (within_cases y x ys c) [
  | inl e ↦ (0, ap (λ z. Some z) e)
  | inr h ↦ let r = within_at ys x h in (suc r.0, r.1)
]

pub flat_within : {X A : Type 0} (f : X → List A) (xs : List X) (x : X) (a : A) → Contains xs x → Contains (f x) a → Contains (flat_map f xs) a
flat_within f [] x a c h = absurd (none_within x c)
flat_within f (y ∷ ys) x a c h = elim (within_cases y x ys c) [
  | inl e ↦ Contains-append_left (f y) (flat_map f ys) a (subst (λ z. Contains (f z) a) (sym e) h)
  | inr k ↦ Contains-append_right (f y) (flat_map f ys) a (flat_within f ys x a k h)
]

first_chosen : {A : Type 0} (o : Option A) (rest : List A) (a : A) → o ≡ Some a → Contains (cons_option o rest) a
first_chosen None rest a h = absurd (cc)
first_chosen (Some b) rest a h = let same : b ≡ a = cc in subst (λ z. Contains (z ∷ rest) a) (sym same) (first_within a rest)

later_chosen : {A : Type 0} (o : Option A) (rest : List A) (a : A) → Contains rest a → Contains (cons_option o rest) a
later_chosen None rest a c = c
later_chosen (Some b) rest a c = later_within b a rest c

chosen_cases : {A : Type 0} (o : Option A) (rest : List A) (a : A) → Contains (cons_option o rest) a → (o ≡ Some a) ⊎ Contains rest a
chosen_cases None rest a c = inr c
chosen_cases (Some b) rest a c = elim (within_cases b a rest c) [ inl e ↦ inl (ap (λ z. Some z) e) | inr k ↦ inr k ]

pub chosen_within : {X A : Type 0} (f : X → Option A) (xs : List X) (x : X) (a : A) → Contains xs x → f x ≡ Some a → Contains (filter_map f xs) a
chosen_within f [] x a c h = absurd (none_within x c)
chosen_within f (y ∷ ys) x a c h = elim (within_cases y x ys c) [
  | inl e ↦ first_chosen (f y) (filter_map f ys) a (ap f e ∙ h)
  | inr k ↦ later_chosen (f y) (filter_map f ys) a (chosen_within f ys x a k h)
]

pub within_chosen : {X A : Type 0} (f : X → Option A) (xs : List X) (a : A) → Contains (filter_map f xs) a → (x : X) × Contains xs x × (f x ≡ Some a)
within_chosen f [] a c = absurd (none_within a c)
within_chosen f (y ∷ ys) a c = elim (chosen_cases (f y) (filter_map f ys) a c) [
  | inl h ↦ (y, first_within y ys, h)
  | inr h ↦ let r = within_chosen f ys a h in (r.0, later_within y r.0 ys r.1, r.2)
]

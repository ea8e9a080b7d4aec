-- What a good whole says of its parts.
use Rattle.std.proofs.Common.{◌≡◌, ℕ, zero, suc, ◌+◌, Bool, true, false, List, [], ◌∷◌, ◌++◌, refl, sym, ap, ◌∙◌, arith, true≢false, Result, Ok, Err, is_ok, Some, None, is_some}
use Rattle.std.specs.Prelude.{slice_get, unwrap_or}
use Rattle.refusal.specs.declared.broken.Broken.{Broken as TypeFault}
use Rattle.types.specs.names.Fault.{both_of, and_then, made_of, unless_of, joined_of, all_from, all_of}

pub err_not_ok : {A : Type 0} (fault : TypeFault) (a : A) → Err fault ≡ Ok a → ⊥
err_not_ok {A} fault a e = let test : Result A TypeFault → Bool = λ r. is_ok r in true≢false (sym (ap test e))

abbrev good_of : {A : Type 0} → A → Result A TypeFault → A
good_of d (Ok a) = a
good_of d (Err fault) = d

pub same_ok : {A : Type 0} (a b : A) → (let r : Result A TypeFault = Ok a in r ≡ Ok b) → a ≡ b
same_ok a b e = ap (good_of a) e

pub made_ok : {A B : Type 0} (f : A → B) (r : Result A TypeFault) (y : B) → made_of f r ≡ Ok y → (x : A) × (r ≡ Ok x) × (f x ≡ y)
made_ok f (Ok x) y e = (x, refl, same_ok (f x) y e)
made_ok f (Err fault) y e = absurd (err_not_ok fault y e)

pub then_ok : {A B : Type 0} (f : A → Result B TypeFault) (r : Result A TypeFault) (y : B) → and_then r f ≡ Ok y → (x : A) × (r ≡ Ok x) × (f x ≡ Ok y)
then_ok f (Ok x) y e = (x, refl, e)
then_ok f (Err fault) y e = absurd (err_not_ok fault y e)

pub both_ok : {A B : Type 0} (a : Result A TypeFault) (b : Result B TypeFault) (p : A × B) → both_of a b ≡ Ok p → (a ≡ Ok p.0) × (b ≡ Ok p.1)
both_ok {A} {B} (Ok x) (Ok y) p e =
    let same : (x, y) ≡ p = same_ok (x, y) p e in
    (ap (λ (q : A × B). Ok q.0) same, ap (λ (q : A × B). Ok q.1) same)
both_ok (Ok x) (Err fault) p e = absurd (err_not_ok fault p e)
both_ok (Err fault) (Ok y) p e = absurd (err_not_ok fault p e)
both_ok (Err fault) (Err other) p e = absurd (err_not_ok _ p e)

pub unless_ok : (holds : Bool) (fault : TypeFault) (u : Unit {0}) → unless_of holds fault ≡ Ok u → holds ≡ true
unless_ok true fault u e = refl
unless_ok false fault u e = absurd (err_not_ok fault u e)

-- each element means its part, by its place
abbrev pub Each : {A B : Type 0} → (ℕ → A → Result B TypeFault) → ℕ → List A → List B → Type 0
Each f n [] [] = Unit {0}
Each f n [] (y ∷ ys) = ⊥
Each f n (x ∷ xs) [] = ⊥
Each f n (x ∷ xs) (y ∷ ys) = (f n x ≡ Ok y) × Each f (n + 1) xs ys

nil_append : {B : Type 0} (ys : List B) → ys ≡ ys ++ []
nil_append [] = refl
nil_append (y ∷ ys) = ap (λ l. y ∷ l) (nil_append ys)

one_append : {B : Type 0} (xs : List B) (y : B) (zs : List B) → (xs ++ y ∷ []) ++ zs ≡ xs ++ y ∷ zs
one_append [] y zs = refl
one_append (x ∷ xs) y zs = ap (λ l. x ∷ l) (one_append xs y zs)

pub all_from_ok : {A B : Type 0} (f : ℕ → A → Result B TypeFault) (n : ℕ) (d : Result (List B) TypeFault) (xs : List A) (ys : List B) →
    all_from f n d xs ≡ Ok ys → (zs : List B) × (ws : List B) × (d ≡ Ok zs) × (ys ≡ zs ++ ws) × Each f n xs ws
all_from_ok f n d [] ys e = (ys, [], e, nil_append ys, tt)
all_from_ok {A} {B} f n d (x ∷ xs) ys e =
    let rest = all_from_ok f (n + 1) (joined_of d (f n x)) xs ys e in
    let made = made_ok (λ (p : List B × B). p.0 ++ p.1 ∷ []) (both_of d (f n x)) rest.0 rest.2 in
    let parts = both_ok d (f n x) made.0 made.1 in
    (made.0.0, made.0.1 ∷ rest.1, parts.0, rest.3 ∙ ap (λ (zs : List B). zs ++ rest.1) (sym made.2) ∙ one_append made.0.0 made.0.1 rest.1, (parts.1, rest.4))

pub at_place : {A B : Type 0} (f : ℕ → A → Result B TypeFault) (n : ℕ) (xs : List A) (ys : List B) (i : ℕ) (y : B) →
    Each f n xs ys → slice_get ys i ≡ Some y → (x : A) × (f (n + i) x ≡ Ok y)
at_place f n [] [] i y each e = absurd (none_some e)
  where
    none_some : {B : Type 0} {y : B} → None ≡ Some y → ⊥
    none_some h = true≢false (sym (ap is_some h))
at_place f n [] (z ∷ zs) i y each e = absurd each
at_place f n (x ∷ xs) [] i y each e = absurd each
at_place {A} {B} f n (x ∷ xs) (z ∷ zs) zero y each e =
    (x, ap (λ k. f k x) (omega arith) ∙ each.0 ∙ ap (λ (v : B). Ok v) (some_same z y e))
  where
    some_same : {B : Type 0} (a b : B) → Some a ≡ Some b → a ≡ b
    some_same a b h = ap (λ o. unwrap_or o a) h
at_place f n (x ∷ xs) (z ∷ zs) (suc i) y each e =
    let found = at_place f (n + 1) xs zs i y each.1 e in
    (found.0, ap (λ k. f k found.0) (omega arith) ∙ found.1)

-- the part at a place is what an element means there
pub all_ok : {A B : Type 0} (f : ℕ → A → Result B TypeFault) (xs : List A) (ys : List B) (i : ℕ) (y : B) →
    all_of f xs ≡ Ok ys → slice_get ys i ≡ Some y → (x : A) × (f i x ≡ Ok y)
all_ok {A} {B} f xs ys i y e at =
    let whole = all_from_ok f 0 (Ok []) xs ys e in
    let none : [] ≡ whole.0 = same_ok [] whole.0 whole.2 in
    let same : ys ≡ whole.1 = whole.3 ∙ ap (λ zs. zs ++ whole.1) (sym none) in
    let found = at_place f 0 xs whole.1 i y whole.4 (ap (λ zs. slice_get zs i) (sym same) ∙ at) in
    (found.0, ap (λ k. f k found.0) (omega arith) ∙ found.1)

-- ---- with the element's place

pub same_place : {A B : Type 0} (f : ℕ → A → Result B TypeFault) (n : ℕ) (xs : List A) (ys : List B) (i : ℕ) (y : B) →
    Each f n xs ys → slice_get ys i ≡ Some y → (x : A) × (slice_get xs i ≡ Some x) × (f (n + i) x ≡ Ok y)
same_place f n [] [] i y each e = absurd (cc)
same_place f n [] (z ∷ zs) i y each e = absurd each
same_place f n (x ∷ xs) [] i y each e = absurd each
same_place {A} {B} f n (x ∷ xs) (z ∷ zs) zero y each e =
    let s : z ≡ y = cc in
    (x, refl, ap (λ k. f k x) (omega arith) ∙ each.0 ∙ ap (λ (v : B). Ok v) s)
same_place f n (x ∷ xs) (z ∷ zs) (suc i) y each e =
    let found = same_place f (n + 1) xs zs i y each.1 e in
    (found.0, found.1, ap (λ k. f k found.0) (omega arith) ∙ found.2)

-- the part at a place is what the element at that place means
pub all_at : {A B : Type 0} (f : ℕ → A → Result B TypeFault) (xs : List A) (ys : List B) (i : ℕ) (y : B) →
    all_of f xs ≡ Ok ys → slice_get ys i ≡ Some y → (x : A) × (slice_get xs i ≡ Some x) × (f i x ≡ Ok y)
all_at {A} {B} f xs ys i y e at =
    let whole = all_from_ok f 0 (Ok []) xs ys e in
    let none : [] ≡ whole.0 = same_ok [] whole.0 whole.2 in
    let same : ys ≡ whole.1 = whole.3 ∙ ap (λ zs. zs ++ whole.1) (sym none) in
    let found = same_place f 0 xs whole.1 i y whole.4 (ap (λ zs. slice_get zs i) (sym same) ∙ at) in
    (found.0, found.1, ap (λ k. f k found.0) (omega arith) ∙ found.2)

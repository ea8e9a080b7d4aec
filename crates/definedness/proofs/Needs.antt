-- What one element more adds to a list of acts.
use Rattle.std.proofs.Common.{◌≡◌, ℕ, ◌+◌, ◌<◌, List, ◌++◌, length, take, get_or, subst, append_assoc}
use Rattle.std.specs.List.{flat_map}
use Rattle.std.proofs.lemmas.List.{take_more, flat_map_more}

pub one_more : {X A : Type 0} (f : X → List A) (xs : List X) (i : ℕ) (d : X) (before now new : List A) →
    i < length xs → now ≡ before ++ flat_map f (take i xs) → new ≡ now ++ f (get_or xs i d) → new ≡ before ++ flat_map f (take (i + 1) xs)
one_more f xs i d before now new l e is = rw (is, e, take_more xs i d l) (flat_map_more f before (take i xs) (get_or xs i d))

pub item_more : {X A : Type 0} (f : X → List A) (xs : List X) (i : ℕ) (x : X) (before now new : List A) →
    i < length xs → x ≡ get_or xs i x → now ≡ before ++ flat_map f (take i xs) → new ≡ now ++ f x → new ≡ before ++ flat_map f (take (i + 1) xs)
item_more {X} {A} f xs i x before now new l at e is =
    let P : X → Type 0 = λ y. new ≡ now ++ f y in
    one_more f xs i x before now new l e (subst P at is)

pub two_parts : {A : Type 0} (old mid new a b : List A) → mid ≡ old ++ a → new ≡ mid ++ b → new ≡ old ++ (a ++ b)
two_parts old mid new a b p q = rw (q, p) (append_assoc old a b)

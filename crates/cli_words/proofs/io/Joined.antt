-- What one more item adds to what items were made into.
use Rattle.std.proofs.Common.{◌≡◌, ℕ, ◌+◌, ◌<◌, List, [], ◌∷◌, ◌++◌, length, get_or, map, take}
use Rattle.std.specs.List.{flat_map}
use Rattle.std.proofs.lemmas.List.{map-append, take_more, flat_map_more}

pub joined_more : {X A : Type 0} (f : X → List A) (xs : List X) (i : ℕ) (d : X) (now : List A) → i < length xs → now ≡ flat_map f (take i xs) → now ++ f (get_or xs i d) ≡ flat_map f (take (i + 1) xs)
joined_more f xs i d now l is = rw (is, take_more xs i d l) (flat_map_more f [] (take i xs) (get_or xs i d))

pub mapped_more : {X A : Type 0} (f : X → A) (xs : List X) (i : ℕ) (d : X) (now : List A) → i < length xs → now ≡ map f (take i xs) → now ++ f (get_or xs i d) ∷ [] ≡ map f (take (i + 1) xs)
mapped_more f xs i d now l is = rw (is, take_more xs i d l, map-append f (take i xs) (get_or xs i d ∷ []))

-- What one more item adds to a vector that is filled from a slice.
use Rattle.std.proofs.Common.{◌≡◌, ℕ, ◌+◌, ◌<◌, ◌≤◌, List, [], ◌∷◌, ◌++◌, length, get_or, take}
use Rattle.std.proofs.lemmas.List.{take_all, take_more}

pub taken_more : {A : Type 0} (xs : List A) (i : ℕ) (x : A) (now new : List A) → i < length xs → x ≡ get_or xs i x → now ≡ take i xs → new ≡ now ++ x ∷ [] → new ≡ take (i + 1) xs
taken_more xs i x now new below item is e =
    let more = take_more xs i x below in
    cc

pub all_taken : {A : Type 0} (xs : List A) (i : ℕ) (now : List A) → now ≡ take i xs → length xs ≤ i → now ≡ xs
all_taken xs i now is past =
    let all = take_all i xs past in
    cc

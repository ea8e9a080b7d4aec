-- Lists that are meant element by element.
use Rattle.std.proofs.Common.{◌≡◌, ◌∙◌, ℕ, ◌+◌, List, [], ◌∷◌, ◌++◌, length, Result, Ok, refl, sym, ap, subst, arith}
use Rattle.refusal.specs.declared.broken.Broken.{Broken}
use Rattle.types.specs.names.Fault.{all_of}
use Rattle.types.proofs.names.Inversion.{Each, all_from_ok, same_ok}

each_count : {A B : Type 0} (f : ℕ → A → Result B Broken) (n : ℕ) (xs : List A) (ys : List B) → Each f n xs ys → length ys ≡ length xs
each_count f n [] [] e = refl
each_count f n [] (y ∷ ys) e = absurd e
each_count f n (x ∷ xs) [] e = absurd e
each_count f n (x ∷ xs) (y ∷ ys) e = let r : length ys ≡ length xs = each_count f (n + 1) xs ys e.1 in omega arith

-- each element is meant by its part
pub each_of : {A B : Type 0} (f : ℕ → A → Result B Broken) (xs : List A) (ys : List B) → all_of f xs ≡ Ok ys → Each f 0 xs ys
each_of {A} {B} f xs ys e =
    let whole = all_from_ok f 0 (Ok []) xs ys e in
    let none : [] ≡ whole.0 = same_ok [] whole.0 whole.2 in
    let same : whole.1 ≡ ys = sym (whole.3 ∙ ap (λ (zs : List B). zs ++ whole.1) (sym none)) in
    let P : List B → Type 0 = λ l. Each f 0 xs l in
    subst P same whole.4

pub all_count : {A B : Type 0} (f : ℕ → A → Result B Broken) (xs : List A) (ys : List B) → all_of f xs ≡ Ok ys → length ys ≡ length xs
all_count f xs ys e = each_count f 0 xs ys (each_of f xs ys e)

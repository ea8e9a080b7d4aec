-- Searches through lists of factors and sides.
use Rattle.std.proofs.Common.{◌≡◌, ℕ, ◌≤◌, ◌<◌, suc, List, length, map, take, get_or, refl, arith}
use Rattle.std.specs.List.{All, Contains}
use Rattle.std.specs.Int.RustNames.{unsigned_abs}
use Rattle.std.proofs.lemmas.List.{length-map, length-reverse, length-take-le, get_or-take, take_all}
use Rattle.std.proofs.lemmas.List.Elements.{All-contains}
use Rattle.linear.specs.declared.form.Term.{Term}
use Rattle.linear.specs.declared.form.Fact.{Fact}
use Rattle.linear_shown.specs.Search.{factors, newest}

pub length_newest : (facts : List Fact) → length (newest facts) ≡ suc (length facts)
length_newest facts = rw (length-reverse (map (λ (f : Fact). f.form) facts), length-map facts (λ (f : Fact). f.form)) refl

pub length_factors : (terms : List Term) → length (factors terms) ≡ suc (length terms)
length_factors terms = rw (length-map terms (λ (t : Term). unsigned_abs t.coefficient))

-- a search that found nothing
pub none_found : {X : Type 0} (P : X → Type 0) (xs : List X) (i : ℕ) → All (λ x. P x → ⊥) (take i xs) → length xs ≤ i → (x : X) → Contains xs x → P x → ⊥
none_found P xs i all l x found = All-contains (λ x. P x → ⊥) xs x (rw (take_all i xs l) at all) found

-- what stands at an earlier place, too, is not looked for again
pub repeated_not : (P : ℕ → Type 0) (xs : List ℕ) (i k : ℕ) → i < length xs → k < i → get_or xs k 0 ≡ get_or xs i 0 → All (λ x. P x → ⊥) (take i xs) → P (get_or xs i 0) → ⊥
repeated_not P xs i k within less same all p =
    let there : k < length (take i xs) = rw (length-take-le i xs (omega (arith, within))) less in
    let not_k : P (get_or xs k 0) → ⊥ = rw (get_or-take i xs k 0 less) at (all k 0 there) in
    not_k (rw same p)

-- The facts in the order of the search.
use Rattle.std.proofs.Common.{◌≡◌, ◌∙◌, ℕ, zero, suc, ◌-◌, ◌<◌, ◌≤◌, pos, List, ◌∷◌, length, map, get_or, reverse, ap, subst, arith}
use Rattle.std.specs.List.{Contains}
use Rattle.std.proofs.lemmas.List.{length-map, length-reverse, get_or-map, get_or-reverse, reverse-reverse}
use Rattle.linear.specs.declared.form.Fact.{Fact}
use Rattle.linear.specs.Terms.{Combination, constant_form}
use Rattle.linear_shown.specs.Sides.{sides}
use Rattle.linear_shown.specs.Search.{newest, side_at}

contains_reverse : {X : Type 0} (xs : List X) (x : X) → Contains xs x → Contains (reverse xs) x
contains_reverse xs x (k, within, is) =
    let there : length xs - 1 - k < length xs = omega (arith, within) in
    let back : length xs - 1 - (length xs - 1 - k) ≡ k = omega (arith, within) in
    (length xs - 1 - k, rw (length-reverse xs) there, get_or-reverse xs (length xs - 1 - k) x there ∙ ap (λ i. get_or xs i x) back ∙ is)

one_on : {X : Type 0} (y : X) (xs others : List X) (x : X) → (Contains xs x → Contains others x) → Contains (y ∷ xs) x → Contains (y ∷ others) x
one_on y xs others x on (zero, within, is) = (0, omega arith, is)
one_on y xs others x on (suc k, within, is) = let r = on (k, omega (arith, within), is) in (suc r.0, omega (arith, r.1), r.2)

pub in_newest : (facts : List Fact) (f : Combination) → Contains (sides facts) f → Contains (newest facts) f
in_newest facts f h = one_on (constant_form (pos 0)) (map (λ (f : Fact). f.form) facts) (reverse (map (λ (f : Fact). f.form) facts)) f (contains_reverse (map (λ (f : Fact). f.form) facts) f) h

pub in_sides : (facts : List Fact) (f : Combination) → Contains (newest facts) f → Contains (sides facts) f
in_sides facts f h =
    let forms = map (λ (f : Fact). f.form) facts in
    one_on (constant_form (pos 0)) (reverse forms) forms f (λ c. subst (λ xs. Contains xs f) (reverse-reverse forms) (contains_reverse (reverse forms) f c)) h

side_after : (facts : List Fact) (i : ℕ) (d : Fact) → i < length facts → side_at facts (suc i) ≡ (get_or facts (length facts - suc i) d).form
side_after facts i d within =
    let forms = map (λ (f : Fact). f.form) facts in
    let many : length forms ≡ length facts = length-map facts (λ (f : Fact). f.form) in
    let place : length forms - 1 - i ≡ length facts - suc i = omega (arith, many) in
    get_or-reverse forms i (constant_form (pos 0)) (rw many within)
    ∙ ap (λ k. get_or forms k (constant_form (pos 0))) place
    ∙ get_or-map (λ (f : Fact). f.form) facts (length facts - suc i) d (constant_form (pos 0)) (omega (arith, within))

pub side_is : (facts : List Fact) (i : ℕ) (d : Fact) → 0 < i → i ≤ length facts → side_at facts i ≡ (get_or facts (length facts - i) d).form
side_is facts zero d some within = absurd (omega (arith, some))
side_is facts (suc i) d some within = side_after facts i d (omega (arith, within))

-- A row of numbers goes to the globals, one after the other.
use Rattle.std.proofs.Common.{◌≡◌, ◌∙◌, ℕ, zero, suc, ◌+◌, ◌<◌, ◌≤◌, List, [], ◌∷◌, ◌++◌, Some, length, take, drop, get_or, slice_get, slice_set, refl, sym, ap, arith, ℤ}
use Rattle.std.specs.Prelude.{min}
use Rattle.std.proofs.lemmas.List.{take_min, drop_min, drop_more, drop_all}
use Rattle.store.specs.Cells.{NamedCells}
use Rattle.store.specs.Refilled.{refilled}

append_assoc : (xs ys zs : List NamedCells) → (xs ++ ys) ++ zs ≡ xs ++ (ys ++ zs)
append_assoc [] ys zs = refl
append_assoc (x ∷ xs) ys zs = ap (λ l. x ∷ l) (append_assoc xs ys zs)

append_nil : (xs : List NamedCells) → xs ++ [] ≡ xs
append_nil [] = refl
append_nil (x ∷ xs) = ap (λ l. x ∷ l) (append_nil xs)

-- the next global takes its numbers
pub refill_step : (gs made after : List NamedCells) (i k : ℕ) (g new : NamedCells) (rest own more row : List ℤ) → i < length gs → g ≡ get_or gs i g → k ≡ min (length g.cells) (length rest) →
    own ≡ take k rest → more ≡ drop k rest → new ≡ record g { cells = own } → after ≡ made ++ new ∷ [] → made ++ refilled (drop i gs) rest ≡ refilled gs row →
    after ++ refilled (drop (i + 1) gs) more ≡ refilled gs row
refill_step gs made after i k g new rest own more row low at many front back is pushed before =
    let later = drop (i + 1) gs in
    let opened : refilled (drop i gs) rest ≡ record g { cells = take (length g.cells) rest } ∷ refilled later (drop (length g.cells) rest) =
    ap (λ (xs : List NamedCells). refilled xs rest) (drop_more gs i g low ∙ ap (λ (x : NamedCells). x ∷ later) (sym at)) in
    let own_is : own ≡ take (length g.cells) rest = front ∙ ap (λ (j : ℕ). take j rest) many ∙ take_min (length g.cells) rest in
    let more_is : more ≡ drop (length g.cells) rest = back ∙ ap (λ (j : ℕ). drop j rest) many ∙ drop_min (length g.cells) rest in
    let new_is : new ≡ record g { cells = take (length g.cells) rest } = is ∙ ap (λ (xs : List ℤ). record g { cells = xs }) own_is in
    ap (λ (xs : List NamedCells). xs ++ refilled later more) pushed ∙ append_assoc made (new ∷ []) (refilled later more)
    ∙ (λ j. made ++ new_is j ∷ refilled later (more_is j)) ∙ sym (ap (λ (xs : List NamedCells). made ++ xs) opened) ∙ before

pub refill_end : (gs made : List NamedCells) (i : ℕ) (rest row : List ℤ) → length gs ≤ i → made ++ refilled (drop i gs) rest ≡ refilled gs row → made ≡ refilled gs row
refill_end gs made i rest row past before =
    sym (append_nil made) ∙ sym (ap (λ (xs : List NamedCells). made ++ refilled xs rest) (drop_all i gs past)) ∙ before

-- ---- in place

-- the first i globals have taken their numbers of the row, and the rest of it is left
abbrev pub Partly : List NamedCells → List NamedCells → ℕ → List ℤ → List ℤ → Type 0
Partly gs now zero rest row = (now ≡ gs) × (rest ≡ row)
Partly [] now (suc i) rest row = ⊥
Partly (g ∷ gs) [] (suc i) rest row = ⊥
Partly (g ∷ gs) (x ∷ now) (suc i) rest row = (x ≡ record g { cells = take (length g.cells) row }) × Partly gs now i rest (drop (length g.cells) row)

pub partly_next : (gs now : List NamedCells) (i : ℕ) (rest row : List ℤ) (old : NamedCells) → Partly gs now i rest row → slice_get now i ≡ Some old →
    Partly gs (slice_set now i (record old { cells = take (length old.cells) rest })) (suc i) (drop (length old.cells) rest) row
partly_next gs [] zero rest row old p at = absurd (cc)
partly_next [] (x ∷ now) zero rest row old p at = absurd (let e = p.0 in cc)
partly_next (g ∷ gs) (x ∷ now) zero rest row old (same, left) at =
    let front : old ≡ g = (let a : Some x ≡ Some old = at in let b : x ∷ now ≡ g ∷ gs = same in cc) in
    let back : now ≡ gs = (let b : x ∷ now ≡ g ∷ gs = same in cc) in
    ((λ j. record (front j) { cells = take (length (front j).cells) (left j) }), (back, (λ j. drop (length (front j).cells) (left j))))
partly_next [] now (suc i) rest row old p at = absurd p
partly_next (g ∷ gs) [] (suc i) rest row old p at = absurd p
partly_next (g ∷ gs) (x ∷ now) (suc i) rest row old (is, more) at = (is, partly_next gs now i rest (drop (length g.cells) row) old more at)

pub partly_done : (gs now : List NamedCells) (i : ℕ) (rest row : List ℤ) → Partly gs now i rest row → length gs ≤ i → now ≡ refilled gs row
partly_done [] now zero rest row p past = p.0
partly_done (g ∷ gs) now zero rest row p past = absurd (omega (arith, past))
partly_done [] now (suc i) rest row p past = absurd p
partly_done (g ∷ gs) [] (suc i) rest row p past = absurd p
partly_done (g ∷ gs) (x ∷ now) (suc i) rest row (is, more) past =
    let later : now ≡ refilled gs (drop (length g.cells) row) = partly_done gs now i rest (drop (length g.cells) row) more (omega (arith, past)) in
    (λ j. is j ∷ later j)

-- Rules that are broken at the elements of a list, where their places matter.
use Rattle.std.proofs.Common.{◌≡◌, ◌∙◌, ℕ, ◌+◌, ◌<◌, ◌≤◌, List, length, get_or, Option, Some, None, inl, inr, sym, ap, ⊎_elim, arith}
use Rattle.std.specs.Prelude.{slice_get}
use Rattle.std.proofs.lemmas.Bool.{cases_eq}
use Rattle.std.proofs.lemmas.Option.{slice_get-get_or, slice_get_within}
use Rattle.refusal.specs.declared.broken.Broken.{Broken}
use Rattle.refusal.specs.Earliest.{IsEarliest}
use Rattle.refusal.specs.Named.{IsLowerOf}
use Rattle.refusal.proofs.Elements.{earliest_same, earliest_both}

-- what is broken at the first elements
abbrev pub Below : {X : Type 0} → (ℕ → X → Broken → Type 0) → List X → ℕ → Broken → Type 0
Below {X} Bad xs n broken = (i : ℕ) × (x : X) × (i < n) × (slice_get xs i ≡ Some x) × Bad i x broken

-- what is broken at some element
abbrev pub Within : {X : Type 0} → (ℕ → X → Broken → Type 0) → List X → Broken → Type 0
Within {X} Bad xs broken = (i : ℕ) × (x : X) × (slice_get xs i ≡ Some x) × Bad i x broken

pub same_at : {X : Type 0} (xs : List X) (i : ℕ) (x y : X) → slice_get xs i ≡ Some x → slice_get xs i ≡ Some y → x ≡ y
same_at xs i x y h k = let e : Some x ≡ Some y = sym h ∙ k in cc

pub read_at : {X : Type 0} (xs : List X) (i : ℕ) (x : X) → i < length xs → x ≡ get_or xs i x → slice_get xs i ≡ Some x
read_at xs i x l is = slice_get-get_or xs i x l ∙ ap Some (sym is)

pub same_read : {X : Type 0} (xs : List X) (i : ℕ) (d : X) → i < length xs → get_or xs i d ≡ get_or xs i (get_or xs i d)
same_read xs i d l = same_at xs i (get_or xs i d) (get_or xs i (get_or xs i d)) (slice_get-get_or xs i d l) (slice_get-get_or xs i (get_or xs i d) l)

-- an element that is read of a list is one of the list's own
pub read_in : {X : Type 0} (xs ys : List X) (i : ℕ) (x : X) → xs ≡ ys → i < length xs → x ≡ get_or xs i x → slice_get ys i ≡ Some x
read_in xs ys i x same l is = ap (λ zs. slice_get zs i) (sym same) ∙ read_at xs i x l is

pub below_nothing : {X : Type 0} (Bad : ℕ → X → Broken → Type 0) (xs : List X) → IsEarliest (Below Bad xs 0) None
below_nothing Bad xs = (tt, λ b p. absurd (omega (arith, p.2)))

pub below_next : {X : Type 0} (Bad : ℕ → X → Broken → Type 0) (xs : List X) (i : ℕ) (x : X) (named broken r : Option Broken) → i < length xs → x ≡ get_or xs i x → IsEarliest (Below Bad xs i) named → IsEarliest (Bad i x) broken → IsLowerOf named broken r → IsEarliest (Below Bad xs (i + 1)) r
below_next Bad xs i x named broken r l is before here lower =
    let read = read_at xs i x l is in
    earliest_same _ _ r
    (λ b p. ⊎_elim (λ old. (old.0, old.1, omega (arith, old.2), old.3, old.4)) (λ new. (i, x, omega arith, read, new)) p)
    (λ b p. ⊎_elim
    (λ same. let h = rw same at p.3 in let e : p.1 ≡ x = same_at xs i p.1 x h read in inr (rw (← e, ← same) p.4))
    (λ other. inl (p.0, p.1, omega (arith, p.2, other), p.3, p.4))
    (cases_eq p.0 i))
    (earliest_both (Below Bad xs i) (Bad i x) named broken r before here lower)

pub below_all : {X : Type 0} (Bad : ℕ → X → Broken → Type 0) (xs : List X) (n : ℕ) (r : Option Broken) → length xs ≤ n → IsEarliest (Below Bad xs n) r → IsEarliest (Within Bad xs) r
below_all Bad xs n r past j = earliest_same _ _ r
    (λ b p. (p.0, p.1, p.3, p.4))
    (λ b p. (p.0, p.1, (let w = slice_get_within xs p.0 p.1 p.2 in omega (arith, w, past)), p.2, p.3))
    j

-- Rules that are broken at the elements of a list, or in two ways.
use Rattle.std.proofs.Common.{◌≡◌, ◌⊎◌, ℕ, ◌+◌, ◌<◌, ◌≤◌, List, length, get_or, take, Option, Some, None, subst, arith, take_all}
use Rattle.std.specs.List.{Any}
use Rattle.refusal.specs.declared.broken.Broken.{Broken}
use Rattle.refusal.specs.Earliest.{IsEarliest}
use Rattle.refusal.specs.Named.{IsLowerOf}
use Rattle.refusal.proofs.Judging.{judged_lower, judged_same, judged_next}

pub earliest_nothing : (P : Broken → Type 0) → ((b : Broken) → P b → ⊥) → IsEarliest P None
earliest_nothing P none = (tt, none)

pub earliest_both : (P Q : Broken → Type 0) (a b r : Option Broken) → IsEarliest P a → IsEarliest Q b → IsLowerOf a b r → IsEarliest (λ x. P x ⊎ Q x) r
earliest_both P Q a b r ja jb lower = judged_same _ _ _ _ r (λ s. tt) (λ x p. p) (λ x p. p) (judged_lower (Unit {0}) (Unit {0}) P Q a b r ja jb lower)

pub earliest_same : (P Q : Broken → Type 0) (r : Option Broken) → ((b : Broken) → P b → Q b) → ((b : Broken) → Q b → P b) → IsEarliest P r → IsEarliest Q r
earliest_same P Q r to from j = judged_same _ _ _ _ r (λ s. tt) to from j

-- one broken rule at one line
pub earliest_one : (P : Broken → Type 0) (a : Broken) → P a → ((b : Broken) → P b → (b.line ≡ a.line) × (a.number ≤ b.number)) → IsEarliest P (Some a)
earliest_one P a holds least = (holds, λ b p. let at = least b p in (omega (arith, at.0), λ e. at.1))

pub earliest_none : {X : Type 0} (Bad : X → Broken → Type 0) (xs : List X) → IsEarliest (λ b. Any (λ y. Bad y b) (take 0 xs)) None
earliest_none Bad xs = (tt, λ b any. absurd (omega (arith, any.2)))

pub earliest_next : {X : Type 0} (Bad : X → Broken → Type 0) (xs : List X) (i : ℕ) (x : X) (named broken r : Option Broken) → i < length xs → x ≡ get_or xs i x → IsEarliest (λ b. Any (λ y. Bad y b) (take i xs)) named → IsEarliest (Bad x) broken → IsLowerOf named broken r → IsEarliest (λ b. Any (λ y. Bad y b) (take (i + 1) xs)) r
earliest_next {X} Bad xs i x named broken r l is before here lower =
    let Good : X → Type 0 = λ y. Unit {0} in
    judged_same _ _ _ _ r (λ s. tt) (λ b p. p) (λ b p. p)
    (judged_next Good Bad xs i x named broken r l is (judged_same _ _ _ _ named (λ s k d w. tt) (λ b p. p) (λ b p. p) before) here lower)

pub earliest_all : {X : Type 0} (Bad : X → Broken → Type 0) (xs : List X) (i : ℕ) (r : Option Broken) → length xs ≤ i → IsEarliest (λ b. Any (λ y. Bad y b) (take i xs)) r → IsEarliest (λ b. Any (λ y. Bad y b) xs) r
earliest_all {X} Bad xs i r past j = subst (λ ys. IsEarliest (λ b. Any (λ y. Bad y b) ys) r) (take_all {A = X} i xs past) j

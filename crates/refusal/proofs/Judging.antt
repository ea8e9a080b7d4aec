-- Judgements put together.
use Rattle.std.proofs.Common.{◌≡◌, ◌⊎◌, ℕ, Bool, true, false, refl, ◌+◌, ◌<◌, List, [], ◌∷◌, ◌++◌, length, take, get_or, Option, Some, None, inl, inr, sym, ap, subst, ⊎_elim, ◌∙◌, arith, length-append}
use Rattle.std.specs.Prelude.{nat_lt, nat_eq, ◌&&◌, if◌then◌else◌}
use Rattle.std.specs.List.{All, Any}
use Rattle.std.proofs.lemmas.Bool.Decides.{nat_tests}
use Rattle.std.proofs.lemmas.Bool.{cases_lt, true≢false, or_parts, or_cases, and_parts}
use Rattle.std.proofs.lemmas.List.{take_more, length_push, get_or_append_left, get_or_push}
use Rattle.std.proofs.lemmas.List.Elements.{All-push}
use Rattle.std.proofs.lemmas.List.Quantifiers.{Any-push}
use Rattle.refusal.specs.declared.broken.Broken.{Broken}
use Rattle.refusal.specs.Earliest.{IsAtOrBefore, IsJudged}
use Rattle.refusal.specs.Before.{is_before, earlier_of}
use Rattle.refusal.specs.Named.{IsLowerOf}

before_trans : (a b c : Broken) → IsAtOrBefore a b → IsAtOrBefore b c → IsAtOrBefore a c
before_trans a b c h k = (
  omega (arith, h.0, k.0),
  λ e. let first : a.line ≡ b.line = omega (arith, h.0, k.0, e) in
      let second : b.line ≡ c.line = omega (arith, h.0, k.0, e) in
      omega (arith, h.1 first, k.1 second),
)

and_false : (x y : Bool) → x && y ≡ false → x ≡ true → y ≡ false
and_false true y h e = h
and_false false y h e = absurd (true≢false (sym e))

not_after : (a b : Broken) → is_before b a ≡ false → IsAtOrBefore a b
not_after a b h =
    let parts = or_parts (nat_lt b.line a.line) (nat_eq b.line a.line && nat_lt b.number a.number) h in (
      grind (arith, nat_tests, parts.0),
      λ same. let line : nat_eq b.line a.line ≡ true = grind (arith, nat_tests, same) in
          let number : nat_lt b.number a.number ≡ false = and_false (nat_eq b.line a.line) (nat_lt b.number a.number) parts.1 line in
          grind (arith, nat_tests, number),
    )

before : (a b : Broken) → is_before b a ≡ true → IsAtOrBefore b a
before a b h = elim (or_cases (nat_lt b.line a.line) (nat_eq b.line a.line && nat_lt b.number a.number) h) [
  | inl below ↦ let line : b.line < a.line = grind (arith, nat_tests, below) in (omega (arith, line), λ same. absurd (omega (arith, line, same)))
  | inr beside ↦
      let both = and_parts (nat_eq b.line a.line) (nat_lt b.number a.number) beside in
      let line : b.line ≡ a.line = grind (arith, nat_tests, both.0) in
      let number : b.number < a.number = grind (arith, nat_tests, both.1) in
      (omega (arith, line), λ same. omega (arith, number))
]

-- the earlier of two is one of them, and stands before none
earlier_cases : (a b : Broken) → ((earlier_of a b ≡ a) × IsAtOrBefore a b) ⊎ ((earlier_of a b ≡ b) × IsAtOrBefore b a)
earlier_cases a b = by (is_before b a) refl
  where
    by : (x : Bool) → is_before b a ≡ x → ((earlier_of a b ≡ a) × IsAtOrBefore a b) ⊎ ((earlier_of a b ≡ b) × IsAtOrBefore b a)
    by true h = inr (ap (λ (x : Bool). if x then b else a) h, before a b h)
    by false h = inl (ap (λ (x : Bool). if x then b else a) h, not_after a b h)

-- what is named of two judgements is a judgement of both
pub judged_lower : (S T : Type 0) (P Q : Broken → Type 0) (a b r : Option Broken) → IsJudged S P a → IsJudged T Q b → IsLowerOf a b r → IsJudged (S × T) (λ x. P x ⊎ Q x) r
judged_lower S T P Q None None r ja jb e = rw e ((ja.0, jb.0), λ x p. ⊎_elim (ja.1 x) (jb.1 x) p)
judged_lower S T P Q None (Some b) r ja jb e = rw e (inr jb.0, λ x p. ⊎_elim (λ k. absurd (ja.1 x k)) (jb.1 x) p)
judged_lower S T P Q (Some a) None r ja jb e = rw e (inl ja.0, λ x p. ⊎_elim (ja.1 x) (λ k. absurd (jb.1 x k)) p)
judged_lower S T P Q (Some a) (Some b) r ja jb e = elim (earlier_cases a b) [
  | inl left ↦ rw (e, left.0) (inl ja.0, λ x p. ⊎_elim (ja.1 x) (λ k. before_trans a b x left.1 (jb.1 x k)) p)
  | inr right ↦ rw (e, right.0) (inr jb.0, λ x p. ⊎_elim (λ k. before_trans b a x right.1 (ja.1 x k)) (jb.1 x) p)
]

-- a judgement on rules that say the same
pub judged_same : (S T : Type 0) (P Q : Broken → Type 0) (r : Option Broken) → (S → T) → ((x : Broken) → P x → Q x) → ((x : Broken) → Q x → P x) → IsJudged S P r → IsJudged T Q r
judged_same S T P Q None holds to from j = (holds j.0, λ x q. j.1 x (from x q))
judged_same S T P Q (Some a) holds to from j = (to a j.0, λ x q. j.1 x (from x q))

-- ---- a list, judged element by element

pub Any-append_left : {X : Type 0} (P : X → Type 0) (xs ys : List X) → Any P xs → Any P (xs ++ ys)
Any-append_left P xs ys any = (any.0, any.1, omega (arith, length-append xs ys, any.2), get_or_append_left xs ys any.1 any.0 any.2 ∙ any.3, any.4)

pub Any-push_cases : {X : Type 0} (P : X → Type 0) (xs : List X) (y : X) → Any P (xs ++ y ∷ []) → Any P xs ⊎ P y
Any-push_cases P xs y any =
    ⊎_elim
    (λ l. inl (any.0, any.1, l, sym (get_or_append_left xs (y ∷ []) any.1 any.0 l) ∙ any.3, any.4))
    (λ g.
    let last : length xs ≡ any.0 = omega (arith, any.2, length_push xs y, g) in
    let same : y ≡ any.1 = sym (get_or_push xs y any.1 any.0 last) ∙ any.3 in
    inr (subst P (sym same) any.4))
    (cases_lt any.0 (length xs))

pub judged_next : {X : Type 0} (Good : X → Type 0) (Bad : X → Broken → Type 0) (xs : List X) (i : ℕ) (x : X) (named broken r : Option Broken) → i < length xs → x ≡ get_or xs i x → IsJudged (All Good (take i xs)) (λ b. Any (λ y. Bad y b) (take i xs)) named → IsJudged (Good x) (Bad x) broken → IsLowerOf named broken r → IsJudged (All Good (take (i + 1) xs)) (λ b. Any (λ y. Bad y b) (take (i + 1) xs)) r
judged_next Good Bad xs i x named broken r l is before here lower =
    let grown : take i xs ++ x ∷ [] ≡ take (i + 1) xs = ap (λ y. take i xs ++ y ∷ []) is ∙ sym (take_more xs i x l) in
    subst (λ ys. IsJudged (All Good ys) (λ b. Any (λ y. Bad y b) ys) r) grown
    (judged_same _ _ _ _ r
    (λ s. All-push Good (take i xs) x s.0 s.1)
    (λ b p. ⊎_elim (λ old. Any-append_left (λ y. Bad y b) (take i xs) (x ∷ []) old) (λ new. Any-push (λ y. Bad y b) (take i xs) x new) p)
    (λ b p. Any-push_cases (λ y. Bad y b) (take i xs) x p)
    (judged_lower (All Good (take i xs)) (Good x) (λ b. Any (λ y. Bad y b) (take i xs)) (Bad x) named broken r before here lower))

-- So much is done that no form has as much left: the sum's constant is past the bounds of a form, and nothing shows it.
use Rattle.std.proofs.Common.{◌≡◌, refl, ◌∙◌, ℕ, ◌<◌, ◌≤◌, ◌^◌, ℤ, pos, ◌-ℤ◌, Bool, false, List, [], ◌∷◌, Option, Some, None, ap, arith}
use Rattle.std.specs.Prelude.{unsigned_abs, if◌then◌else◌}
use Rattle.std.proofs.lemmas.Bool.{le-ltb}
use Rattle.std.proofs.lemmas.Int.{ints}
use Rattle.linear.specs.Terms.{Combination, constant_form}
use Rattle.linear.specs.declared.form.Fact.{Fact}
use Rattle.ranges.specs.cfg.declared.structure.Move.{Move}
use Rattle.ranges.specs.ranges_owed.declared.sum.Part.{Part}
use Rattle.ranges.specs.ranges_owed.declared.sum.Sum.{Sum}
use Rattle.ranges.specs.Sums.{with_parts, start_of, sum_form, shows_form, shows}
use Rattle.cost_table.specs.Rules.{left_behind, less_form}
use Rattle.cost_table.specs.Tables.{as_u128}

no_form : (ps : List Part) → with_parts ps None ≡ None
no_form [] = refl
no_form (p ∷ ps) = refl

no_start : (c : ℤ) → 2 ^ 100 ≤ unsigned_abs c → start_of c ≡ None
no_start c far = ap (λ (b : Bool). if b then Some (constant_form c) else None) (le-ltb (unsigned_abs c) (2 ^ 100) far)

past_forms : (facts : List Fact) (s : Sum) → 2 ^ 100 ≤ unsigned_abs s.constant → shows facts s ≡ false
unfolding sum_form
past_forms facts s far = ap (λ (f : Option Combination). shows_form facts (with_parts s.parts f)) (no_start s.constant far) ∙ ap (shows_form facts) (no_form s.parts)

pub past_work : (facts : List Fact) (left : Combination) (n : ℕ) → unsigned_abs left.constant < 2 ^ 100 → 2 ^ 104 ≤ n → shows facts (left_behind left n) ≡ false
past_work facts left n small past = past_forms facts (left_behind left n) (far left.constant n small past)
  where
    far : (a : ℤ) (n : ℕ) → unsigned_abs a < 2 ^ 100 → 2 ^ 104 ≤ n → 2 ^ 100 ≤ unsigned_abs (a -ℤ pos n)
    far a n s p = omega (arith, ints)

pub past_next : (facts : List Fact) (left : Combination) (n : ℕ) (moves : List Move) (next : Combination) → unsigned_abs left.constant < 2 ^ 100 → unsigned_abs next.constant < 2 ^ 100 → 2 ^ 104 ≤ n →
    shows facts (less_form (left_behind left n) moves next) ≡ false
past_next facts left n moves next small small' past = past_forms facts (less_form (left_behind left n) moves next) (far left.constant next.constant n small small' past)
  where
    far : (a b : ℤ) (n : ℕ) → unsigned_abs a < 2 ^ 100 → unsigned_abs b < 2 ^ 100 → 2 ^ 104 ≤ n → 2 ^ 100 ≤ unsigned_abs ((a -ℤ pos n) -ℤ b)
    far a b n s s' p = omega (arith, ints)

pub past_both : (facts : List Fact) (left : Combination) (n : ℕ) (first second : Combination) → unsigned_abs left.constant < 2 ^ 100 → unsigned_abs first.constant < 2 ^ 100 → unsigned_abs second.constant < 2 ^ 100 → 2 ^ 104 ≤ n →
    shows facts (less_form (less_form (left_behind left n) [] first) [] second) ≡ false
past_both facts left n first second small small' small'' past =
    past_forms facts (less_form (less_form (left_behind left n) [] first) [] second) (far left.constant first.constant second.constant n small small' small'' past)
  where
    far : (a b c : ℤ) (n : ℕ) → unsigned_abs a < 2 ^ 100 → unsigned_abs b < 2 ^ 100 → unsigned_abs c < 2 ^ 100 → 2 ^ 104 ≤ n → 2 ^ 100 ≤ unsigned_abs (((a -ℤ pos n) -ℤ b) -ℤ c)
    far a b c n s s' s'' p = omega (arith, ints)

-- ---- a number up to the greatest of 128 bits

pub much : (done n : ℕ) → done ≡ as_u128 n → 2 ^ 104 ≤ done → 2 ^ 104 ≤ n
much done n is past = omega (arith, is, past)

pub exact : (done n : ℕ) → done ≡ as_u128 n → done < 2 ^ 104 → done ≡ n
exact done n is less = omega (arith, is, less)

-- ---- otherwise a sum is made of its constant and its parts

pub made : (c c' : ℤ) (ps ps' : List Part) → c ≡ c' → ps ≡ ps' → (let s : Sum = record { constant = c; parts = ps } in s) ≡ record { constant = c'; parts = ps' }
made c c' ps ps' p q = ap (λ (x : ℤ). (let s : Sum = record { constant = x; parts = ps } in s)) p ∙ ap (λ (xs : List Part). (let s : Sum = record { constant = c'; parts = xs } in s)) q

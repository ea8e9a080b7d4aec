-- The first of some entries, and those after them.
use Rattle.std.proofs.Common.{◌∙◌, ℕ, ◌<◌, ◌≤◌, ◌-◌, ◌⊎◌, List, ◌++◌, length, get_or, take, drop, sym, ap, subst, arith}
use Rattle.std.specs.List.{All, Contains}
use Rattle.std.proofs.lemmas.List.{take-append-drop, length-take-le, length-drop, get_or-take, get_or-drop}
use Rattle.std.proofs.lemmas.List.Elements.{All-contains, Contains-append_left, Contains-append_right, Contains-append_cases, Contains-get_or}
use Rattle.std.proofs.lemmas.List.Sorted.{IsNonDecreasingBy-take, IsNonDecreasingBy-drop}
use Rattle.linear.specs.declared.form.Fact.{Fact}
use Rattle.linear_shown.specs.declared.index.Entry.{Entry}
use Rattle.linear_shown.specs.Index.{IsEntry, AreEntries}

whole : (k : ℕ) (xs : List Entry) (e : Entry) → Contains (take k xs ++ drop k xs) e → Contains xs e
whole k xs e c = subst (λ (ys : List Entry). Contains ys e) (take-append-drop k xs) c

pub from_front : (k : ℕ) (xs : List Entry) (e : Entry) → Contains (take k xs) e → Contains xs e
from_front k xs e c = whole k xs e (Contains-append_left (take k xs) (drop k xs) e c)

pub from_back : (k : ℕ) (xs : List Entry) (e : Entry) → Contains (drop k xs) e → Contains xs e
from_back k xs e c = whole k xs e (Contains-append_right (take k xs) (drop k xs) e c)

pub in_either : (k : ℕ) (xs : List Entry) (e : Entry) → Contains xs e → Contains (take k xs) e ⊎ Contains (drop k xs) e
in_either k xs e c = Contains-append_cases (take k xs) (drop k xs) e (subst (λ (ys : List Entry). Contains ys e) (sym (take-append-drop k xs)) c)

pub in_front : (k : ℕ) (xs : List Entry) (e : Entry) (c : Contains xs e) → c.0 < k → k ≤ length xs → Contains (take k xs) e
in_front k xs e (i, within, is) before le = (i, rw (length-take-le k xs le) before, get_or-take k xs i e before ∙ is)

pub in_back : (k : ℕ) (xs : List Entry) (e : Entry) (c : Contains xs e) → k ≤ c.0 → Contains (drop k xs) e
in_back k xs e (i, within, is) after =
    (i - k, omega (arith, length-drop k xs, within, after), get_or-drop k xs (i - k) e ∙ ap (λ (n : ℕ). get_or xs n e) (omega (arith, after)) ∙ is)

all_of : (P : Entry → Type 0) (xs : List Entry) → ((e : Entry) → Contains xs e → P e) → All P xs
all_of P xs each k d l = each (get_or xs k d) (Contains-get_or xs k d l)

pub are_taken : (facts : List Fact) (k : ℕ) (xs : List Entry) → AreEntries facts xs → AreEntries facts (take k xs)
are_taken facts k xs p = record {
  sorted = IsNonDecreasingBy-take (λ (e : Entry). e.key) k xs p.sorted;
  own = all_of (IsEntry facts) (take k xs) (λ e c. All-contains (IsEntry facts) xs e p.own (from_front k xs e c));
}

pub are_left : (facts : List Fact) (k : ℕ) (xs : List Entry) → AreEntries facts xs → AreEntries facts (drop k xs)
are_left facts k xs p = record {
  sorted = IsNonDecreasingBy-drop (λ (e : Entry). e.key) k xs p.sorted;
  own = all_of (IsEntry facts) (drop k xs) (λ e c. All-contains (IsEntry facts) xs e p.own (from_back k xs e c));
}

use Rattle.std.proofs.Common.{◌≡◌, ℕ, ◌<◌, ◌≤◌, get_or}
use Rattle.linear_shown.specs.declared.index.Entry.{Entry}
use Rattle.linear_shown.specs.Index.{place_at, IsContradiction}
use Rattle.linear_shown.proofs.index.contradicted_from.Given as goal

abbrev pub invariant-loop-k : goal.invariant-loop-k
invariant-loop-k l = (i : ℕ) (d : Entry) → l.from ≤ i → i < l.k → (get_or l.entries i d).key ≡ l.key → IsContradiction (place_at l.facts l.place) (place_at l.facts (get_or l.entries i d).place) → ⊥

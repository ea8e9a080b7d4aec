use Rattle.std.proofs.Common.{ℕ, ◌<◌, ◌≤◌, get_or}
use Rattle.linear_shown.specs.declared.index.Entry.{Entry}
use Rattle.linear_shown.specs.Shown.{IsSum}
use Rattle.linear_shown.specs.Index.{place_at}
use Rattle.linear_shown.proofs.lookup.is_made_up.Given as goal

abbrev pub invariant-loop-count : goal.invariant-loop-count
invariant-loop-count l = (l.count ≤ l.upto) × ((k : ℕ) (d : Entry) → l.count ≤ k → k < l.upto
    → IsSum l.search.form.now l.pass.a (place_at l.search.facts.now (get_or l.pass.firsts.now l.first d).place) l.pass.b (place_at l.search.facts.now (get_or l.pass.seconds.now k d).place) → ⊥)

abbrev pub decreases-loop-count : goal.decreases-loop-count
decreases-loop-count l = l.count

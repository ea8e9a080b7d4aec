use Rattle.linear_shown.specs.Index.{HasPlaces}
use Rattle.linear_shown.proofs.merge.entries_from.Given as goal

abbrev pub invariant-loop-place : goal.invariant-loop-place
invariant-loop-place l = HasPlaces l.facts l.from l.place l.entries.items

use Rattle.linear_shown.specs.Index.{IsBegun}
use Rattle.linear_shown.proofs.index.enter_each.Given as goal

abbrev pub invariant-loop-place : goal.invariant-loop-place
invariant-loop-place l = IsBegun l.facts l.place l.settled l.recent.items l.is_consistent

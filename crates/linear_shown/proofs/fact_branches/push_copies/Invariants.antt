use Rattle.std.proofs.Common.{◌≡◌, ◌++◌, take}
use Rattle.linear_shown.proofs.fact_branches.push_copies.Given as goal

abbrev pub invariant-loop-fact : goal.invariant-loop-fact
invariant-loop-fact l = l.facts.items ≡ l.initial.facts.items ++ take l.fact-index l.more

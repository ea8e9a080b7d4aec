use Rattle.std.proofs.Common.{◌≡◌, ◌++◌, take}
use Rattle.ranges.specs.Sums.{facts_of}
use Rattle.ranges.proofs.know.push_facts.Given as goal

abbrev pub invariant-loop-sum : goal.invariant-loop-sum
invariant-loop-sum l = l.facts ≡ l.initial.facts ++ facts_of (take l.sum-index l.sums)

use Rattle.std.proofs.Common.{◌≡◌, take}
use Rattle.ranges_owed.specs.Inequalities.{differences_of}
use Rattle.ranges_owed.proofs.inequality.differences_of.Given as goal

abbrev pub invariant-loop-inequality : goal.invariant-loop-inequality
invariant-loop-inequality l = l.sums.items ≡ differences_of l.moves (take l.inequality-index l.inequalities)

use Rattle.std.proofs.Common.{◌≡◌, take}
use Rattle.ranges_owed.specs.Owed.{inequalities_owed}
use Rattle.ranges_owed.proofs.owe.inequalities_owed.Given as goal

abbrev pub invariant-loop-inequality : goal.invariant-loop-inequality
invariant-loop-inequality l = l.obligations.items ≡ inequalities_owed l.number l.moves (take l.inequality-index l.inequalities)

use Rattle.std.proofs.Common.{◌≡◌, ◌++◌, drop}
use Rattle.ranges_owed.specs.Inequalities.{argument_moves}
use Rattle.ranges_owed.proofs.inequality.argument_moves.Given as goal

abbrev pub invariant-loop-index : goal.invariant-loop-index
invariant-loop-index l = l.moves.items ++ argument_moves l.index (drop l.index l.arguments) ≡ argument_moves 0 l.arguments

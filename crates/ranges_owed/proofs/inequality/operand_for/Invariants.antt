use Rattle.std.proofs.Common.{◌≡◌, drop}
use Rattle.ranges_owed.specs.Inequalities.{operand_for}
use Rattle.ranges_owed.proofs.inequality.operand_for.Given as goal

abbrev pub invariant-loop-item : goal.invariant-loop-item
invariant-loop-item l = operand_for (drop l.item-index l.moves) l.register ≡ operand_for l.moves l.register

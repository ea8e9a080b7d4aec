use Rattle.std.proofs.Common.{suc, take}
use Rattle.definedness.specs.Marks.{AreNeedsBelow}
use Rattle.definedness.proofs.table.greatest_needed.Given as goal

abbrev pub invariant-loop-block : goal.invariant-loop-block
invariant-loop-block l = AreNeedsBelow (suc l.greatest) (take l.block-index l.table)

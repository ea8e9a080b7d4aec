use Rattle.std.proofs.Common.{take}
use Rattle.linear_shown.specs.Index.{IsMerging}
use Rattle.linear_shown.proofs.merge.merge.Given as goal

abbrev pub invariant-loop-entry : goal.invariant-loop-entry
invariant-loop-entry l = IsMerging l.facts l.entries (take l.entry-index l.fresh) l.rest l.all.items

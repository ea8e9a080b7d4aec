use Rattle.std.proofs.Common.{◌≡◌, false, replicate}
use Rattle.reachability.proofs.marks.no_marks.Given as goal

abbrev pub invariant-loop-node : goal.invariant-loop-node
invariant-loop-node l = l.marks.items ≡ replicate l._node false

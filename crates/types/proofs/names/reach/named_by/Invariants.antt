use Rattle.types.proofs.names.Naming.{Naming}
use Rattle.types.proofs.names.reach.named_by.Given as goal

abbrev pub invariant-loop-place : goal.invariant-loop-place
invariant-loop-place l = Naming l.mentions l.marked l.globals l.place l.marks.items

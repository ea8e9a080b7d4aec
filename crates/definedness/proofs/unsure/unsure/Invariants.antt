use Rattle.std.proofs.Common.{None}
use Rattle.definedness_allocas.specs.Sets.{label_of}
use Rattle.definedness.proofs.NeverSure.{UnsureBelow}
use Rattle.definedness.proofs.unsure.unsure.Given as goal

abbrev pub invariant-loop-block : goal.invariant-loop-block
invariant-loop-block l = UnsureBelow (label_of l.sets None) l.block l.marks.items

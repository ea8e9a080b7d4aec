use Rattle.std.proofs.Common.{◌≡◌, replicate}
use Rattle.definedness_allocas.specs.declared.sets.Label.TheVariants.{Sure}
use Rattle.definedness.proofs.settle.all_sure.Given as goal

abbrev pub invariant-loop-block : goal.invariant-loop-block
invariant-loop-block l = l.labels.items ≡ replicate l._block Sure

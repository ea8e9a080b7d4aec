use Rattle.std.specs.Prelude.{IfSome}
use Rattle.kernel_calls.specs.Inside.{SetsLow}
use Rattle.kernel_calls.proofs.range.low_of.Given as goal

abbrev pub invariant-loop-k : goal.invariant-loop-k
invariant-loop-k l = IfSome l.low (SetsLow l.number l.requirements)

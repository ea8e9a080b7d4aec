use Rattle.std.specs.Prelude.{IfSome}
use Rattle.kernel_calls.specs.Inside.{SetsHigh}
use Rattle.kernel_calls.proofs.range.high_of.Given as goal

abbrev pub invariant-loop-k : goal.invariant-loop-k
invariant-loop-k l = IfSome l.high (SetsHigh l.number l.requirements)

use Rattle.std.proofs.Common.{◌≡◌, drop}
use Rattle.linear.specs.Lookup.{looked_up}
use Rattle.linear.proofs.side.coefficient.Given as goal

abbrev pub invariant-loop-term : goal.invariant-loop-term
invariant-loop-term l = looked_up (drop l.term-index l.terms) l.register.0 ≡ looked_up l.terms l.register.0

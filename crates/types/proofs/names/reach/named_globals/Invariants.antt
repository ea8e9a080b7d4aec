use Rattle.types.proofs.names.Naming.{Tabling}
use Rattle.types.proofs.names.reach.named_globals.Given as goal

abbrev pub invariant-loop-start : goal.invariant-loop-start
invariant-loop-start l = Tabling l.mentions l.globals l.start l.named

use Rattle.cfg.proofs.Programs.{Judging}
use Rattle.cfg.proofs.build.graph.Given as goal

abbrev pub invariant-loop-function : goal.invariant-loop-function
invariant-loop-function l = Judging l.fn.program.functions l.function-index l.functions.items l.named

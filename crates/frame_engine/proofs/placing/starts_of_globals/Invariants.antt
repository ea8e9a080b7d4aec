use Rattle.std.proofs.Common.{◌≡◌, ◌++◌, drop}
use Rattle.std.specs.Prelude.{map}
use Rattle.program.specs.declared.function.Global.{Global}
use Rattle.frame_engine.specs.Starts.{global_starts, starts_from}
use Rattle.frame_engine.proofs.placing.starts_of_globals.Given as goal

abbrev pub invariant-loop-global : goal.invariant-loop-global
invariant-loop-global l = l.starts.items ++ starts_from l.next (map (λ (x : Global). x.cells) (drop l.global-index l.globals)) ≡ global_starts l.globals

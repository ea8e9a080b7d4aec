use Rattle.std.proofs.Common.{◌≡◌, ◌++◌, drop}
use Rattle.std.specs.Prelude.{map}
use Rattle.program.specs.declared.function.Alloca.{Alloca}
use Rattle.frame_engine.specs.Starts.{alloca_starts, starts_from}
use Rattle.frame_engine.proofs.placing.starts_of_allocas.Given as goal

abbrev pub invariant-loop-alloca : goal.invariant-loop-alloca
invariant-loop-alloca l = l.starts.items ++ starts_from l.next (map (λ (x : Alloca). x.cells) (drop l.alloca-index l.allocas)) ≡ alloca_starts l.allocas

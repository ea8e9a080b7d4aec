use Rattle.std.proofs.Common.{◌≡◌, ◌+◌, drop}
use Rattle.std.specs.Prelude.{map, sum}
use Rattle.program.specs.declared.function.Alloca.{Alloca}
use Rattle.frame_engine.proofs.functions.frame_cells.Given as goal

abbrev pub invariant-loop-alloca : goal.invariant-loop-alloca
invariant-loop-alloca l = l.cells + sum (map (λ (a : Alloca). a.cells) (drop l.alloca-index l.allocas)) ≡ sum (map (λ (a : Alloca). a.cells) l.allocas)

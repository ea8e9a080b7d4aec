use Rattle.std.proofs.Common.{◌≡◌, ◌-◌, ◌^◌, take}
use Rattle.std.specs.Prelude.{min, sum_by}
use Rattle.program.specs.declared.function.Global.{Global}
use Rattle.kernel_calls.proofs.cells.cells_of.Given as goal

abbrev pub invariant-loop-global : goal.invariant-loop-global
invariant-loop-global l = l.count ≡ min (sum_by (λ (g : Global). g.cells) (take l.global-index l.globals)) (2 ^ 64 - 1)

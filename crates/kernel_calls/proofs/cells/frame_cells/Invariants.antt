use Rattle.std.proofs.Common.{◌≡◌, ◌-◌, ◌^◌, take}
use Rattle.std.specs.Prelude.{min, sum_by}
use Rattle.program.specs.declared.function.Alloca.{Alloca}
use Rattle.kernel_calls.proofs.cells.frame_cells.Given as goal

abbrev pub invariant-loop-own : goal.invariant-loop-own
invariant-loop-own l = l.count ≡ min (sum_by (λ (a : Alloca). a.cells) (take l.own-index l.own-items)) (2 ^ 64 - 1)

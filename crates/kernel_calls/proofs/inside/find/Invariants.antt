use Rattle.std.proofs.Common.{◌≡◌, ◌<◌, ℕ, Some, slice_get}
use Rattle.std.specs.Prelude.{◌≢◌}
use Rattle.program.specs.declared.function.Global.{Global}
use Rattle.kernel_calls.proofs.inside.find.Given as goal

abbrev pub invariant-loop-number : goal.invariant-loop-number
invariant-loop-number l = (k : ℕ) (g : Global) → k < l.number → slice_get l.globals k ≡ Some g → g.name ≢ l.name

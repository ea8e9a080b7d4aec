use Rattle.std.proofs.Common.{◌≡◌, ◌<◌, ◌≤◌, ℕ, slice_get, Some}
use Rattle.program.specs.declared.function.Function.{Function}
use Rattle.kernel_calls.specs.Inside.{frame_cells}
use Rattle.kernel_calls.proofs.cells.most_frame_cells.Given as goal

abbrev pub invariant-loop-function : goal.invariant-loop-function
invariant-loop-function l = (k : ℕ) (f : Function) → k < l.function-index → slice_get l.function-items k ≡ Some f → frame_cells f ≤ l.most

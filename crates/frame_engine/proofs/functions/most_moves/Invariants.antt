use Rattle.std.proofs.Common.{◌≡◌, ◌<◌, ◌≤◌, ℕ, length, slice_get, Some}
use Rattle.program.specs.declared.function.Function.{Function}
use Rattle.frame_engine.proofs.functions.most_moves.Given as goal

abbrev pub invariant-loop-function : goal.invariant-loop-function
invariant-loop-function l = (k : ℕ) (f : Function) → k < l.function-index → slice_get l.function-items k ≡ Some f → length f.registers ≤ l.most

use Rattle.std.proofs.Common.{◌≡◌, ◌++◌, drop}
use Rattle.std.specs.Prelude.{map}
use Rattle.program.specs.declared.function.Function.{Function}
use Rattle.frame_engine.specs.Starts.{alloca_starts}
use Rattle.frame_engine.proofs.activation.Places.of_program.Given as goal

abbrev pub invariant-loop-function : goal.invariant-loop-function
invariant-loop-function l = l.allocas.items ++ map (λ (f : Function). alloca_starts f.allocas) (drop l.function-index l.function-items) ≡ map (λ (f : Function). alloca_starts f.allocas) l.function-items

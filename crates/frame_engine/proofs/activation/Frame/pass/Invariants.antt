use Rattle.std.proofs.Common.{◌≡◌, length}
use Rattle.frame_engine.specs.Activation.{bases_in}
use Rattle.frame_engine.proofs.Passing.{Passed}
use Rattle.frame_engine.proofs.activation.Frame.pass.Given as goal

abbrev pub invariant-loop-i : goal.invariant-loop-i
invariant-loop-i l = record {
  length : length l.words ≡ length l.initial.words;
  passed : Passed (bases_in l.places l.self) l.self.registers.items l.arguments l.words l.i;
}

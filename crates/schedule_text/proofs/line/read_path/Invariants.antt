use Rattle.std.proofs.Common.{length}
use Rattle.schedule_text.proofs.Children.{Children}
use Rattle.schedule_text.proofs.line.read_path.Given as goal

abbrev pub invariant-loop-rest : goal.invariant-loop-rest
invariant-loop-rest l = Children l.text l.rest l.numbers.items

abbrev pub decreases-loop-rest : goal.decreases-loop-rest
decreases-loop-rest l = length l.rest

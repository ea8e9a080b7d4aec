use Rattle.std.proofs.Common.{length}
use Rattle.annotate.specs.Kept.{AreLinesAmong}
use Rattle.ir_reader.specs.Lines.{lines_of}
use Rattle.annotate.proofs.own_lines.is_annotated.Given as goal

abbrev pub invariant-loop-rest : goal.invariant-loop-rest
invariant-loop-rest l = record {
  so_far : AreLinesAmong (lines_of l.left) (lines_of l.rest) → AreLinesAmong (lines_of l.text) (lines_of l.annotated);
}

abbrev pub decreases-loop-rest : goal.decreases-loop-rest
decreases-loop-rest l = length l.rest

use Rattle.std.proofs.Common.{◌≡◌, ◌+◌, ◌-◌, ◌≤◌, length}
use Rattle.ir_reader.specs.Lines.{lines_of}
use Rattle.ir_reader.specs.Tracking.{IsTracked}
use Rattle.ir_reader.proofs.LineByLine.{Goes-on}
use Rattle.ir_reader.proofs.reader.read.Given as goal

abbrev pub invariant-loop-rest : goal.invariant-loop-rest
invariant-loop-rest l = record {
  tracked : IsTracked l.reader;
  counted : l.number + length (lines_of l.rest) ≡ length (lines_of l.text);
  within : l.number + length l.rest ≤ length l.text;
  short : length l.text ≤ length l.rest + 1048576;
  so_far : Goes-on l.text l.reader.draft (l.number + 1) (length l.rest + 1048576 - length l.text) (lines_of l.rest);
}

abbrev pub decreases-loop-rest : goal.decreases-loop-rest
decreases-loop-rest l = length l.rest

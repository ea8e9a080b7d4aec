use Rattle.ir_reader.proofs.Tracked.{start_tracked}
use Rattle.ir_reader.proofs.reader.Reader.new.Goals as goal

pub returns-clause-tracked : goal.returns-clause-tracked
returns-clause-tracked c = rw (c.new-2.ensures, c.new-3.ensures) (start_tracked c.new-4.result c.in_ok-scope.scope c.new-4.ensures c.in_ok-scope.ensures)

use Rattle.std.proofs.Common.{length}
use Rattle.definedness.specs.Settling.{AreNeverSure}
use Rattle.definedness.specs.Sure.{IsNeverSure}
use Rattle.definedness.proofs.Paths.{RowsOf}
use Rattle.definedness.proofs.fork.Flow.unsure_rows.Given as goal

abbrev pub invariant-loop-alloca : goal.invariant-loop-alloca
invariant-loop-alloca l = RowsOf (IsNeverSure l.self.bodies.now l.self.blocks.now l.all) (length l.self.blocks.now) l.alloca l.rows.items × AreNeverSure l.self.forks.now l.self.blocks.now l.last.stops.items l.last.marks.items

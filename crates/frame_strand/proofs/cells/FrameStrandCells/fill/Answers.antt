use Rattle.frame_strand.proofs.Showing.{became_read}
use Rattle.frame_strand.proofs.cells.FrameStrandCells.fill.Goals as goal

pub returns-clause-shown : goal.returns-clause-shown
returns-clause-shown c = became_read c.args.self.now c.take.new.self c.args.at.now c.args.value.now c.take.ensures.reads c.take.ensures.writes

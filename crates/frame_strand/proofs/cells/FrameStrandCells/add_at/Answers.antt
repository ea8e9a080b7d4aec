use Rattle.std.proofs.Common.{subst}
use Rattle.std.specs.Prelude.{OnOk}
use Rattle.frame_strand.specs.Buffers.{IsPut}
use Rattle.frame_strand.proofs.Showing.{became_added}
use Rattle.frame_strand.proofs.cells.FrameStrandCells.add_at.Goals as goal

pub returns-clause-shown : goal.returns-clause-shown
returns-clause-shown c = became_added c.put.result c.args.self.now c.put.new.self c.args.at.now c.args.number.now (subst (λ u. OnOk c.put.result (IsPut c.args.self.now c.args.at.now u c.put.new.self)) c.raised-change.ensures.is c.put.ensures.done)

use Rattle.shared_run.proofs.Stories.{keeps}
use Rattle.shared_run.proofs.board.Board.machine.Goals as goal

pub returns-clause-keeps : goal.returns-clause-keeps
returns-clause-keeps g c = rw (← c.self.view_is) (keeps _ _ _ c.self.invariant.0)

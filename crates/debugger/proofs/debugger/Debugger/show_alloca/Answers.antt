use Rattle.debugger.specs.Sessions.{state_at}
use Rattle.debugger.proofs.debugger.Debugger.show_alloca.Goals as goal

pub returns : goal.returns
returns c s d = c.alloca_cell.ensures (state_at s c.args.self.now.position) d.at.state

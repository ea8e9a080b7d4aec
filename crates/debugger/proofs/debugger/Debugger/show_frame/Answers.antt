use Rattle.debugger.specs.Sessions.{state_at}
use Rattle.debugger.proofs.debugger.Debugger.show_frame.Goals as goal

pub returns-clause-shown : goal.returns-clause-shown
returns-clause-shown c s d = c.frame.ensures.shown (state_at s c.args.self.now.position) d.at.state

pub returns-clause-absent : goal.returns-clause-absent
returns-clause-absent c s d = c.frame.ensures.absent (state_at s c.args.self.now.position) d.at.state

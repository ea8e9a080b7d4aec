use Rattle.debugger.specs.Sessions.{state_at}
use Rattle.debugger.proofs.debugger.Debugger.show_worker.Goals as goal

pub returns-clause-shown : goal.returns-clause-shown
returns-clause-shown c s d = c.task_of.ensures.shown (state_at s c.args.self.now.position) d.at.state

pub returns-clause-idle : goal.returns-clause-idle
returns-clause-idle c s d = c.task_of.ensures.idle (state_at s c.args.self.now.position) d.at.state

use Rattle.debugger.specs.Sessions.{state_at}
use Rattle.debugger.proofs.Walking.{absent_there, line_shown}
use Rattle.debugger.proofs.debugger.Debugger.show_task.Goals as goal

pub returns-clause-shown : goal.returns-clause-shown
returns-clause-shown c s d = c.task.ensures.shown (state_at s c.args.self.now.position) d.at.state

pub returns-clause-absent : goal.returns-clause-absent
returns-clause-absent c s d =
    absent_there s c.args.self.now.position c.args.path.now c.args.self.now.machine.stage d.at c.task.result (c.task.ensures.absent (state_at s c.args.self.now.position) d.at.state)

pub returns-clause-line : goal.returns-clause-line
returns-clause-line c s d = line_shown s c.args.self.now.position c.args.path.now c.args.self.now.machine.stage d.at c.task.result c.task.ensures.line

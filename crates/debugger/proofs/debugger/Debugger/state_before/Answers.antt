use Rattle.std.proofs.Common.{take}
use Rattle.debugger.proofs.debugger.Debugger.state_before.Goals as goal

pub returns-in_ok-copy-clause-state : goal.returns-in_ok-copy-clause-state
returns-in_ok-copy-clause-state c s d = c.in_ok-copy.ensures.same.replays s.program s.arguments s.globals s.workers (take c.args.self.now.position s.events) d.at

pub returns-in_ok-copy-2-clause-state : goal.returns-in_ok-copy-2-clause-state
returns-in_ok-copy-2-clause-state c s d =
    c.in_ok-copy-2.ensures.same.replays s.program s.arguments s.globals s.workers (take c.before-last.result.0 s.events) (c.before-last.ensures.state s d.marks)

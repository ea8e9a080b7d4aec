use Rattle.std.proofs.Common.{◌+◌, sym, arith, take}
use Rattle.debugger.specs.Sessions.{IsAt}
use Rattle.debugger.proofs.Walking.{at_next}
use Rattle.debugger.proofs.debugger.Debugger.forward.Goals as goal

pub returns-clause-session : goal.returns-clause-session
returns-clause-session c s d =
    let old = c.args.self.now in
    let many = old.events.ok.0 in
    let at : IsAt s (old.position + 1) c.apply.new.self.stage = at_next s old.events.items (sym d.events) old.position old.machine.stage c.apply.new.self.stage c.index.result.now (omega arith) c.index.ensures c.in_ok-_enabled.ensures.keeps d.at in
    record { events = d.events; at = at; marks = c.keep.ensures s d.marks at }

pub returns-in_err-_enabled-clause-session : goal.returns-in_err-_enabled-clause-session
returns-in_err-_enabled-clause-session c s d =
    record {
      events = d.events;
      at = c.in_err-_enabled.ensures.refused.replays s.program s.arguments s.globals s.workers (take c.args.self.now.position s.events) d.at;
      marks = d.marks;
    }

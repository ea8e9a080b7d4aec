use Rattle.std.proofs.Common.{sym, subst, refl, []}
use Rattle.schedule_core.specs.declared.machine.Machine.{Machine}
use Rattle.debugger.specs.Sessions.{IsAt, Session}
use Rattle.debugger.proofs.Walking.{none_marked}
use Rattle.debugger.proofs.debugger.Debugger.new.Goals as goal

pub returns-clause-session : goal.returns-clause-session
returns-clause-session c =
    let s : Session = record { program = c.args.verified.now; arguments = c.args.arguments.now; globals = c.args.memory; workers = c.args.workers; events = c.args.events.items } in
    let start : IsAt s 0 c.in_ok-first.first.stage = c.in_ok-first.ensures.replays in
    record {
      events = refl;
      at = c.in-Ok.ensures.same.replays s.program s.arguments s.globals s.workers [] start;
      marks = none_marked s c.new-marks.result c.new-marks.ensures.none (subst (λ (m : Machine). IsAt s 0 m.stage) (sym c.new-marks.ensures.first) start);
    }

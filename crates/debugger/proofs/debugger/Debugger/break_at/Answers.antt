use Rattle.std.proofs.Common.{◌≡◌, refl, sym, ◌∙◌, take}
use Rattle.debugger.specs.Sessions.{IsAt}
use Rattle.schedule_core.proofs.Unchanged.{as_it_was}
use Rattle.schedule_workers.proofs.Growing.{on_err}
use Rattle.debugger.proofs.debugger.Debugger.break_at.Goals as goal

pub returns-clause-session : goal.returns-clause-session
returns-clause-session c s d =
    let same : s.events ≡ c.as_slice.result.now = sym d.events ∙ sym c.as_slice.ensures.value in
    let at : IsAt s c.args.self.now.position c.in_ok-machine.machine.stage = c.in_ok-machine.ensures.same.replays s.program s.arguments s.globals s.workers (take c.args.self.now.position s.events) d.at in
    record { events = d.events; at = c.in_ok-to.ensures.at s same at; marks = c.in_ok-to.ensures.marks s same at d.marks }

pub returns-in_err-to-clause-session : goal.returns-in_err-to-clause-session
returns-in_err-to-clause-session c s d =
    let same : s.events ≡ c.as_slice.result.now = sym d.events ∙ sym c.as_slice.ensures.value in
    let at : IsAt s c.args.self.now.position c.in_ok-machine.machine.stage = c.in_ok-machine.ensures.same.replays s.program s.arguments s.globals s.workers (take c.args.self.now.position s.events) d.at in
    record { events = d.events; at = d.at; marks = c.in_err-to.ensures.marks s same at d.marks }

pub returns-clause-stop : goal.returns-clause-stop
returns-clause-stop c s d =
    let same : s.events ≡ c.as_slice.result.now = sym d.events ∙ sym c.as_slice.ensures.value in
    let at : IsAt s c.args.self.now.position c.in_ok-machine.machine.stage = c.in_ok-machine.ensures.same.replays s.program s.arguments s.globals s.workers (take c.args.self.now.position s.events) d.at in
    c.in_ok-to.ensures.stop s same at

pub returns-in_err-machine-clause-refused : goal.returns-in_err-machine-clause-refused
returns-in_err-machine-clause-refused c = on_err c.from_residual.result (record { position = refl; state = as_it_was c.args.self.now.machine.stage })

pub returns-in_err-to-clause-refused : goal.returns-in_err-to-clause-refused
returns-in_err-to-clause-refused c = on_err c.from_residual-in_err-to.result (record { position = refl; state = as_it_was c.args.self.now.machine.stage })

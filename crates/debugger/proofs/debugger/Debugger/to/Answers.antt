use Rattle.std.proofs.Common.{◌≡◌, refl, sym, ◌∙◌}
use Rattle.schedule_core.proofs.Unchanged.{as_it_was}
use Rattle.schedule_workers.proofs.Growing.{on_err}
use Rattle.debugger.proofs.debugger.Debugger.to.Goals as goal

pub returns-clause-session : goal.returns-clause-session
returns-clause-session c s d =
    let same : s.events ≡ c.as_slice.result.now = sym d.events ∙ sym c.as_slice.ensures.value in
    let at = c.in_ok-from.ensures.state s (record { events = d.events; at = d.at; marks = d.marks }) in
    record { events = d.events; at = c.in_ok-walk.ensures.at s same c.in_ok-from.ensures.before at; marks = c.walk.ensures.marks s same at d.marks }

pub returns-in_err-walk-clause-session : goal.returns-in_err-walk-clause-session
returns-in_err-walk-clause-session c s d =
    let same : s.events ≡ c.as_slice.result.now = sym d.events ∙ sym c.as_slice.ensures.value in
    record { events = d.events; at = d.at; marks = c.walk.ensures.marks s same (c.in_ok-from.ensures.state s (record { events = d.events; at = d.at; marks = d.marks })) d.marks }

pub returns-in_err-from-clause-refused : goal.returns-in_err-from-clause-refused
returns-in_err-from-clause-refused c = on_err c.from_residual.result (record { position = refl; state = as_it_was c.args.self.now.machine.stage })

pub returns-in_err-walk-clause-refused : goal.returns-in_err-walk-clause-refused
returns-in_err-walk-clause-refused c = on_err c.from_residual-in_err-walk.result (record { position = refl; state = as_it_was c.args.self.now.machine.stage })

use Rattle.schedule_core.proofs.Parents.{no_parent, not_ready, shown}
use Rattle.schedule_core.proofs.machine.Machine.ready_parent.Goals as goal

pub returns-in_err-parent-clause-none : goal.returns-in_err-parent-clause-none
returns-in_err-parent-clause-none c m state = rw c.from_residual.ensures (no_parent c.args.self.now.stage m state c.args.worker c.in_err-parent.ensures.none)

pub returns-in_err-ticket-clause-none : goal.returns-in_err-ticket-clause-none
returns-in_err-ticket-clause-none c m state =
    rw c.from_residual-in_err-ticket.ensures (not_ready c.args.self.now.stage m state c.args.worker c.in_ok-parent.parent c.in_ok-parent.ensures.child (c.in_err-ticket.ensures.none state.shown.agrees.tree))

pub returns-clause-shown : goal.returns-clause-shown
returns-clause-shown c m state = shown c.args.self.now.stage m state c.args.worker c.in_ok-parent.parent c.in_ok-ticket.ticket c.in_ok-parent.ensures.child c.in_ok-ticket.ensures.has

use Rattle.std.proofs.Common.{subst, sym}
use Rattle.std.specs.Prelude.{IsTrue}
use Rattle.schedule_core.specs.Parents.{HasNoReadyParent}
use Rattle.schedule_core.specs.Stages.{IsState, workers_of}
use Rattle.shared_run.specs.Calls.{IsOneBelow}
use Rattle.shared_run.specs.Story.{Story, state_of}
use Rattle.shared_run.proofs.Stories.{state_at}
use Rattle.shared_run.proofs.board.Board.parent_ticket.Goals as goal

pub returns-in_err-slot-clause-none : goal.returns-in_err-slot-clause-none
returns-in_err-slot-clause-none g c =
    let s : Story = c.args.self.now in
    let machine = c.machine-machine.result.now.stage in
    let here : IsState machine (state_of s) = state_at s.start s.events s.stage c.machine-machine.ensures.legal machine c.machine-machine.ensures.stage in
    let none : HasNoReadyParent (workers_of s.stage) (state_of s) c.args.worker =
    subst (λ x. HasNoReadyParent (workers_of x) (state_of s) c.args.worker) c.machine-machine.ensures.stage (c.in_err-slot.ensures.none (state_of s) here) in
    rw c.from_residual.ensures (λ below. none)

pub returns-then-not-is_one_below-clause-none : goal.returns-then-not-is_one_below-clause-none
returns-then-not-is_one_below-clause-none g c = λ below.
    let s : Story = c.args.self.now in
    let machine = c.machine-machine.result.now.stage in
    let here : IsState machine (state_of s) = state_at s.start s.events s.stage c.machine-machine.ensures.legal machine c.machine-machine.ensures.stage in
    let yes : IsTrue c.is_one_below.result =
    c.is_one_below.ensures.1 (subst (λ d. IsOneBelow c.args.before d) (sym (c.depth_of.ensures (state_of s) here)) below) in
    let off = c.if-not-is_one_below.true in
    absurd cc

pub returns-clause-below : goal.returns-clause-below
returns-clause-below g c =
    let s : Story = c.args.self.now in
    let machine = c.machine-machine.result.now.stage in
    let here : IsState machine (state_of s) = state_at s.start s.events s.stage c.machine-machine.ensures.legal machine c.machine-machine.ensures.stage in
    subst (λ d. IsOneBelow c.args.before d) (c.depth_of.ensures (state_of s) here) (c.is_one_below.ensures.0 c.if-not-is_one_below.false)

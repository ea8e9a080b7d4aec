use Rattle.std.proofs.Common.{ap, ◌∙◌}
use Rattle.std.specs.Prelude.{is_none}
use Rattle.schedule_core.specs.Stages.{IsState}
use Rattle.shared_run.specs.Story.{Story, state_of}
use Rattle.shared_run.proofs.Calls.{is_none_by}
use Rattle.shared_run.proofs.Commits.{commits_done}
use Rattle.shared_run.proofs.Stories.{state_at}
use Rattle.shared_run.proofs.board.Board.commit.Goals as goal

pub returns-in-Ok-true : goal.returns-in-Ok-true
returns-in-Ok-true g c =
    let s : Story = c.args.self.now in
    let t : Story = c.absorb.new.self in
    let before : IsState c.machine.result.now.stage (state_of s) = state_at s.start s.events s.stage c.machine.ensures.legal c.machine.result.now.stage c.machine.ensures.stage in
    let after : IsState c.machine-machine.result.now.stage (state_of t) = state_at t.start t.events t.stage c.machine-machine.ensures.legal c.machine-machine.result.now.stage c.machine-machine.ensures.stage in
    commits_done s t c.args.seat.now c.absorb.new.seat c.machine.ensures.legal c.args.strand.now c.worker-worker.result c.worker-worker.ensures.value c.in-Ok-true.field-0 c.in-Ok-true.field-0-test
    c.in-Ok-true.ensures.done c.machine-machine.ensures.legal c.depth_of-depth.result (c.depth_of-depth.ensures (state_of s) before) c.parent_ticket-ready.result
    c.parent_ticket-ready.ensures.shown c.parent_ticket-ready.ensures.below c.parent_ticket-ready.ensures.none
    c.is_none.result (is_none_by c.depth_of.result c.is_none.result c.is_none.ensures ∙ ap is_none (c.depth_of.ensures (state_of t) after))
    c.ended.result (c.ended.ensures (state_of t) after)

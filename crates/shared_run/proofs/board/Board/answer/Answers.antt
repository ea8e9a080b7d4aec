use Rattle.std.proofs.Common.{rules, Some, ap, sym, ◌∙◌}
use Rattle.std.specs.Int.{w64}
use Rattle.std.proofs.lemmas.Int.{to_z-of_z}
use Rattle.schedule_core.specs.Stages.{IsState}
use Rattle.shared_run.specs.Story.{Story, state_of}
use Rattle.shared_run.proofs.Stories.{state_at}
use Rattle.shared_run.proofs.board.Board.answer.Goals as goal

pub returns-in_default-clause-refused : goal.returns-in_default-clause-refused
returns-in_default-clause-refused g c =
    let s : Story = c.args.self in
    let here : IsState c.machine.result.now.stage (state_of s) = state_at s.start s.events s.stage c.machine.ensures.legal c.machine.result.now.stage c.machine.ensures.stage in
    sym (c.result.ensures (state_of s) here) ∙ c.in_default.is

pub close-requires-clause-ended : goal.close-requires-clause-ended
close-requires-clause-ended g c =
    let s : Story = c.args.self in
    let here : IsState c.machine.result.now.stage (state_of s) = state_at s.start s.events s.stage c.machine.ensures.legal c.machine.result.now.stage c.machine.ensures.stage in
    sym (c.in-Some.ensures (state_of s) here) ∙ ap Some (sym (to_z-of_z w64 c.in-Some.value (let auto = c.result.auto in let inv = c.result.type_inv in search rules)))

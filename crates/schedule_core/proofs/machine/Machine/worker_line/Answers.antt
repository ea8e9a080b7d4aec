use Rattle.std.proofs.Common.{◌≡◌, Some, sym, ap, ◌∙◌}
use Rattle.std.specs.Option.{option_copied}
use Rattle.program.specs.declared.function.Program.{Program}
use Rattle.cactus.specs.Frames.{node_at}
use Rattle.schedule_workers.specs.Scheduling.{hand_of}
use Rattle.schedule_core.specs.Lines.{next_line}
use Rattle.schedule_core.proofs.Views.{held_line}
use Rattle.schedule_core.proofs.machine.Machine.worker_line.Goals as goal

pub returns : goal.returns
returns c m s =
    let stage = c.args.self.now.stage in
    let hand : hand_of stage.run.hands.items c.args.worker ≡ Some c.in_ok-slot.slot = sym c.hand.ensures ∙ c.in_ok-slot.was in
    let node = c.in_ok-node.node.now in
    let stands : node_at stage.run.cactus c.in_ok-slot.slot ≡ Some node = sym c.node.ensures ∙ ap option_copied c.in_ok-node.was in
    c.next_line.ensures ∙ (ap (λ (q : Program). next_line q node.frame.frame) c.program.ensures.value ∙ sym (held_line stage m s c.args.worker c.in_ok-slot.slot node hand stands))

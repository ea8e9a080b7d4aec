use Rattle.std.proofs.Common.{sym, ap, ◌∙◌}
use Rattle.std.specs.Option.{option_copied}
use Rattle.schedule_core.proofs.Firsts.{ready_if}
use Rattle.schedule_core.proofs.machine.Machine.ready_task.Goals as goal

pub returns-then-is_ready-clause-shown : goal.returns-then-is_ready-clause-shown
returns-then-is_ready-clause-shown c =
    ready_if c.args.self.now.stage.run.cactus c.args.slot c.in_ok-node.node.now (sym c.node.ensures ∙ ap option_copied c.in_ok-node.was) (c.is_ready.ensures.0 c.if-is_ready.true) (option_copied c.lowest_path.result) c.lowest_path.ensures.shown

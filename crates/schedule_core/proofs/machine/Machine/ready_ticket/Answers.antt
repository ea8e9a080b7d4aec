use Rattle.std.proofs.Common.{◌≡◌, true, refl, sym, ap, ◌∙◌}
use Rattle.std.specs.Option.{option_copied}
use Rattle.schedule_workers.proofs.Lengths.{not_there}
use Rattle.schedule_core.proofs.TasksShown.{low_lives}
use Rattle.schedule_core.proofs.machine.Machine.ready_ticket.Goals as goal

pub returns-in_err-top-clause-none : goal.returns-in_err-top-clause-none
returns-in_err-top-clause-none c tree = rw c.from_residual.ensures (λ ready. rw (sym c.node.ensures ∙ ap option_copied c.in_err-top.was) at ready)

pub returns-then-not-is_ready-clause-none : goal.returns-then-not-is_ready-clause-none
returns-then-not-is_ready-clause-none c tree ready =
    let is : c.is_ready.result ≡ true = c.is_ready.ensures.1 (rw (sym c.node.ensures ∙ ap option_copied c.in_ok-top.was) at ready) in
    let off = c.if-not-is_ready.true in
    cc

pub returns-in_err-node-clause-none : goal.returns-in_err-node-clause-none
returns-in_err-node-clause-none c tree =
    absurd (not_there c.args.self.now.stage.run.cactus c.in_ok-lowest.lowest (sym c.node-2.ensures ∙ ap option_copied c.in_err-node.was)
    (low_lives c.args.self.now.stage.run.cactus c.args.slot c.in_ok-lowest.lowest c.in_ok-lowest.ensures.lowest))

pub returns-clause-has : goal.returns-clause-has
returns-clause-has c = record {
  top = c.in_ok-top.top.now;
  stands = sym c.node.ensures ∙ ap option_copied c.in_ok-top.was;
  ready = c.is_ready.ensures.0 c.if-not-is_ready.false;
  below = c.in_ok-lowest.ensures.lowest;
  lowest = c.in_ok-node.node.now;
  lives = sym c.node-2.ensures ∙ ap option_copied c.in_ok-node.was;
  generation = refl;
}

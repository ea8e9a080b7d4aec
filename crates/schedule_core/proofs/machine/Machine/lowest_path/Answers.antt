use Rattle.std.proofs.Common.{refl, sym, ap, ◌∙◌}
use Rattle.std.specs.Option.{option_copied}
use Rattle.schedule_workers.proofs.Lengths.{not_there}
use Rattle.schedule_core.proofs.TasksShown.{low_lives}
use Rattle.schedule_core.proofs.machine.Machine.lowest_path.Goals as goal

pub returns-in_err-node-clause-found : goal.returns-in_err-node-clause-found
returns-in_err-node-clause-found c tree lives =
    absurd (not_there c.args.self.now.stage.run.cactus c.in_ok-lowest.lowest (sym c.node.ensures ∙ ap option_copied c.in_err-node.was) (low_lives c.args.self.now.stage.run.cactus c.args.slot c.in_ok-lowest.lowest c.in_ok-lowest.ensures.lowest))

pub returns-clause-shown : goal.returns-clause-shown
returns-clause-shown c =
    record {
      low = c.in_ok-lowest.lowest;
      below = c.in_ok-lowest.ensures.lowest;
      lowest = c.in_ok-node.field-0.now;
      stands = sym c.node.ensures ∙ ap option_copied c.in_ok-node.was;
      named = refl;
    }

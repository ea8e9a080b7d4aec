use Rattle.std.proofs.Common.{arith}
use Rattle.shared_run.proofs.Runs.{steps_again}
use Rattle.shared_run.proofs.history.keep_steps.Goals as goal

pub returns : goal.returns
returns c =
    steps_again c.args.entries.now.items c.take_steps-before.new.entries.items c.push_reserved.new.self.items c.args.worker c.take_steps-before.result c.args.count c.take_steps-before.ensures.taken c.push_reserved.ensures.items

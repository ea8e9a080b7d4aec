use Rattle.schedule_workers.proofs.Stepping.{same_leaves}
use Rattle.schedule_workers.proofs.run.Run.end_block.Goals as goal

pub returns-in-Detach-clause-refused : goal.returns-in-Detach-clause-refused
returns-in-Detach-clause-refused c = same_leaves c.args.self.now c.detach.new.self c.detach.result c.detach.ensures.left

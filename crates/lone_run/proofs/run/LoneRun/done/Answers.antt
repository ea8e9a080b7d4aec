use Rattle.lone_run.proofs.OnWay.{takes}
use Rattle.lone_run.proofs.run.LoneRun.done.Goals as goal

pub returns-clause-more : goal.returns-clause-more
returns-clause-more c w = takes _ _ _ _ _ _ _ _ w

use Rattle.laws_conditions.proofs.sample.PairRuns.{pair_on_two_workers}
use Rattle.laws_conditions.proofs.pair_on_two_workers.Goals as goal

pub returns : goal.returns
returns c = pair_on_two_workers

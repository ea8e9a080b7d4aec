use Rattle.laws_conditions.proofs.sample.PairRuns.{pair_on_every_schedule}
use Rattle.laws_conditions.proofs.pair_on_every_schedule.Goals as goal

pub returns : goal.returns
returns c = pair_on_every_schedule

use Rattle.laws_conditions.proofs.sample.PairCosts.{pair_within_tables}
use Rattle.laws_conditions.proofs.pair_within_tables.Goals as goal

pub returns : goal.returns
returns c = pair_within_tables

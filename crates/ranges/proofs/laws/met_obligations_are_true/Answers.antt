use Rattle.ranges.proofs.Truth.{met_true}
use Rattle.ranges.proofs.laws.met_obligations_are_true.Goals as goal

pub returns : goal.returns
returns c = met_true

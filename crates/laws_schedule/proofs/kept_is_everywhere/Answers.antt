use Rattle.laws_schedule.proofs.safe.Everywhere.{kept_is_everywhere}
use Rattle.laws_schedule.proofs.kept_is_everywhere.Goals as goal

pub returns : goal.returns
returns c = kept_is_everywhere

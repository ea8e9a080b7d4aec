use Rattle.semantics.proofs.TaskLaws.{region_counts}
use Rattle.semantics.proofs.region_counts.Goals as goal

pub returns : goal.returns
returns c = region_counts

use Rattle.laws_phases.proofs.defined.Needed.{reads_have_values}
use Rattle.laws_phases.proofs.reads_have_values.Goals as goal

pub returns : goal.returns
returns c = reads_have_values

use Rattle.laws_phases.proofs.defined.Known.{known_is_stable}
use Rattle.laws_phases.proofs.known_facts_are_stable.Goals as goal

pub returns : goal.returns
returns c = known_is_stable

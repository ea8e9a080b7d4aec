use Rattle.laws_phases.proofs.facts.Handed.{facts_handed_on}
use Rattle.laws_phases.proofs.facts_handed_on.Goals as goal

pub returns : goal.returns
returns c = facts_handed_on

use Rattle.laws_phases.proofs.facts.Handed.{facts_tabled}
use Rattle.laws_phases.proofs.facts_tabled.Goals as goal

pub returns : goal.returns
returns c = facts_tabled

use Rattle.laws_phases.proofs.facts.Stable.{facts_are_stable}
use Rattle.laws_phases.proofs.facts_are_stable.Goals as goal

pub returns : goal.returns
returns c = facts_are_stable

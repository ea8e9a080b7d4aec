use Rattle.laws_phases.proofs.facts.Handed.{facts_at_start}
use Rattle.laws_phases.proofs.facts_at_start.Goals as goal

pub returns : goal.returns
returns c = facts_at_start

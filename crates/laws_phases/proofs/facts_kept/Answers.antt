use Rattle.laws_phases.proofs.facts.Kept.{facts_kept_by_tests}
use Rattle.laws_phases.proofs.facts_kept.Goals as goal

pub returns : goal.returns
returns c = facts_kept_by_tests

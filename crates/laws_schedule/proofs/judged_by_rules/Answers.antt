use Rattle.laws_schedule.proofs.zones.ByRules.{judged_by_rules}
use Rattle.laws_schedule.proofs.judged_by_rules.Goals as goal

pub returns : goal.returns
returns c = judged_by_rules

use Rattle.refusal.proofs.Elements.{earliest_both}
use Rattle.footprints.specs.Rules.{IsUncovered, IsUnclear}
use Rattle.footprints.proofs.judge.use_fault.Goals as goal

pub returns : goal.returns
returns c =
    earliest_both (IsUncovered c.args.line c.args.used) (IsUnclear c.args.line c.args.used) _ _ _ c.fault_unless-uncovered.ensures c.fault_unless-unclear.ensures c.lower.ensures

use Rattle.laws_verdict.proofs.Verdicts.{one_verdict}
use Rattle.laws_verdict.proofs.one_verdict.Goals as goal

pub returns : goal.returns
returns c = one_verdict

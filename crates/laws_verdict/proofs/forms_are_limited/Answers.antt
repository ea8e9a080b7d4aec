use Rattle.laws_verdict.proofs.limits.Texts.{forms_are_limited}
use Rattle.laws_verdict.proofs.forms_are_limited.Goals as goal

pub returns : goal.returns
returns c = forms_are_limited

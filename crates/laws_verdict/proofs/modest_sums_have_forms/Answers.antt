use Rattle.laws_verdict.proofs.Sums.{modest_sums_have_forms}
use Rattle.laws_verdict.proofs.modest_sums_have_forms.Goals as goal

pub returns : goal.returns
returns c = modest_sums_have_forms

use Rattle.laws_verdict.proofs.FormedPlaces.{sums_have_forms}
use Rattle.laws_verdict.proofs.sums_have_forms.Goals as goal

pub returns : goal.returns
returns c = sums_have_forms

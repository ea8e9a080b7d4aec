use Rattle.laws_verdict.proofs.Limited.{limited_forms_ask_little}
use Rattle.laws_verdict.proofs.limited_forms_ask_little.Goals as goal

pub returns : goal.returns
returns c = limited_forms_ask_little

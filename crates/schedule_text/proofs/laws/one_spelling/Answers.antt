use Rattle.schedule_text.proofs.OneText.{one_spelling}
use Rattle.schedule_text.proofs.laws.one_spelling.Goals as goal

pub returns : goal.returns
returns c = one_spelling
